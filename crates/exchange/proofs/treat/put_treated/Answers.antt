-- `exchange::treat::put_treated` meets its contract.
use mathlib.Core.Path.{sym, ◌∙◌}
use Rattle.table.specs.Code.{lent}
use Rattle.table.specs.Table.{items}
use Rattle.cutting.specs.Code.{cut_of}
use Rattle.cutting.specs.Private.{own_in, upper_of}
use Rattle.exchange.specs.Given.{given}
use Rattle.exchange.proofs.Treating.{treat-skip, treat-equal, treat-other, treat-ids}
use Rattle.exchange.proofs.treat.put_treated.Goals as goal
use Rattle.exchange.proofs.treat.put_treated.Goals.{in_default-via-in-Fingerprint+else-not-equals_own, in_default-via-in-Ids+else-listing, in_default-via-in_default}

pub returns-in-Fingerprint : goal.returns-in-Fingerprint
returns-in-Fingerprint c =
    λ x e.
    let a = c.args in
    rw (c.in-Fingerprint.is, treat-other (given a.listing) (cut_of a.cut) (items (lent a.times.now a.own.now)) x (upper_of a.span) (own_in (lent a.times.now a.own.now) a.span) e _ (sym c.equals_own.ensures ∙ c.if-not-equals_own.true))
    c.put_cut.ensures

pub returns-in-Ids : goal.returns-in-Ids
returns-in-Ids c =
    λ x e.
    let a = c.args in
    rw (c.in-Ids.is, treat-ids (given a.listing) (cut_of a.cut) (items (lent a.times.now a.own.now)) x (upper_of a.span) (own_in (lent a.times.now a.own.now) a.span) e _, c.if-listing.true)
    c.put_ids.ensures

pub returns-in_default : goal.returns-in_default
returns-in_default c =
    λ x e.
    let a = c.args in
    elim c.in_default.branch [
      | in_default-via-in-Fingerprint+else-not-equals_own w ↦
          rw (w.in-Fingerprint.is, treat-equal (given a.listing) (cut_of a.cut) (items (lent a.times.now a.own.now)) x (upper_of a.span) (own_in (lent a.times.now a.own.now) a.span) e _ (sym w.equals_own.ensures ∙ w.if-not-equals_own.false))
          c.put_skip.ensures
      | in_default-via-in-Ids+else-listing w ↦
          rw (w.in-Ids.is, treat-ids (given a.listing) (cut_of a.cut) (items (lent a.times.now a.own.now)) x (upper_of a.span) (own_in (lent a.times.now a.own.now) a.span) e _, w.if-listing.false)
          c.put_skip.ensures
      | in_default-via-in_default w ↦
          rw (w.in_default.is, treat-skip (given a.listing) (cut_of a.cut) (items (lent a.times.now a.own.now)) x (upper_of a.span) (own_in (lent a.times.now a.own.now) a.span) e)
          c.put_skip.ensures
    ]
