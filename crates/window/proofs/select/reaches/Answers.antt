-- `window::select::reaches` meets its contract.
use native.Mathlib.Omega.{arith}
use Rattle.window.proofs.Selecting.{word_from}
use Rattle.window.proofs.select.reaches.Goals as goal

pub returns-in-None : goal.returns-in-None
returns-in-None c =
    let a = c.args in
    rw (c.in-None.is, c.requires.2) (word_from a.m.now (λ k. omega (arith, c.type_inv.m k)) a.p a.interval.low)
