-- `index::lookup::Index::has` meets its contract.
use mathlib.Core.Path.{sym, ◌∙◌}
use native.Mathlib.Omega.{arith}
use borrow.Author.Tests.{le-ltb}
use Rattle.message.proofs.Order.{Small}
use Rattle.index.proofs.Directory.{word_same}
use Rattle.index.proofs.Finding.{found_nowhere, answer-none, answer_at_lem}
use Rattle.index.proofs.lookup.Index.has.Goals as goal

pub returns-then-surely_lacks : goal.returns-then-surely_lacks
returns-then-surely_lacks c =
    let a = c.args in
    let x = a.self.now.sound in
    let small : Small a.id.now = λ k. omega (arith, c.type_inv.id k) in
    found_nowhere x a.id.now small c.requires.0
    (λ i h e. c.surely_lacks.ensures c.if-surely_lacks.true i h (word_same x a.id.now small i h e ∙ sym c.word-first.ensures))

pub returns-then-k-self : goal.returns-then-k-self
returns-then-k-self c =
    let a = c.args in
    let small : Small a.id.now = λ k. omega (arith, c.type_inv.id k) in
    answer_at_lem a.self.now.sound a.id.now small c.requires.0 _ c.search-k.ensures c.if-k-self.true c.is_at.result c.is_at.ensures

pub returns-else-k-self : goal.returns-else-k-self
returns-else-k-self c =
    let a = c.args in
    let small : Small a.id.now = λ k. omega (arith, c.type_inv.id k) in
    le-ltb _ _ c.if-k-self.false ∙ answer-none a.self.now.sound a.id.now small c.requires.0 _ c.search-k.ensures c.if-k-self.false
