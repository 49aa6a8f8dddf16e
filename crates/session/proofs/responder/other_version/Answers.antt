-- `session::responder::other_version` meets its contract.
use Prim.Native.Nat.{ℕ}
use mathlib.Core.Path.{◌≡◌, sym}
use mathlib.Core.List.{List}
use native.Mathlib.Omega.{arith}
use lib.ListN.{get_or}
use Rattle.session.proofs.Answering.{offers, no_bytes, below_60, above_6F, just_61}
use Rattle.session.proofs.responder.other_version.Goals as goal

pub returns-then-query-eq0 : goal.returns-then-query-eq0
returns-then-query-eq0 c =
    let query : List ℕ = c.args.query.now in
    sym (no_bytes (query) c.if-query-eq0.true)

pub returns-in-96 : goal.returns-in-96
returns-in-96 c =
    let query : List ℕ = c.args.query.now in
    let first : ℕ = get_or (query) 0 0 in
    let e : first ≡ 0x60 = c.in-96.is in
    sym (offers (query) (omega (arith, e)) (omega (arith, e)) (λ f. omega (arith, e)))

pub returns-in-97 : goal.returns-in-97
returns-in-97 c =
    let query : List ℕ = c.args.query.now in
    sym (just_61 (query) c.in-97.is)

pub returns-in-98-to-111 : goal.returns-in-98-to-111
returns-in-98-to-111 c =
    let query : List ℕ = c.args.query.now in
    sym (offers (query) c.in-98-to-111.if-this-lt96-own.false (omega (arith, c.in-98-to-111.if-this-lt112-own.true)) c.in-98-to-111.in_default-own.rest.1)

pub returns-in_default : goal.returns-in_default
returns-in_default c =
    let query : List ℕ = c.args.query.now in
    sym (below_60 (query) c.in_default.if-this-lt96-own.true)

pub returns-in_default-2 : goal.returns-in_default-2
returns-in_default-2 c =
    let query : List ℕ = c.args.query.now in
    sym (above_6F (query) c.in_default.if-this-lt112-own.false)
