-- `idlist::find` meets its contract.
use Rattle.std.proofs.Common.{rules, ◌≡◌, take, Some, MatchOption}
use Rattle.idlist.proofs.Searching.{Between, or_none, found_in}
use Rattle.idlist.proofs.find.Goals as goal

pub returns : goal.returns
returns c =
    let a = c.args in
    let d = take 32 a.id.now in
    let behind : Between d a.list.now a.count a.from a.count c.find_between.result = search rules in
    let before : MatchOption c.find_between.result (Between d a.list.now a.count 0 a.from c.or_else.result) (λ i. c.or_else.result ≡ Some i) = or_none c.find_between.result _ (λ h. search rules) c.or_else.ensures in
    found_in d a.list.now a.count a.from c.find_between.result c.or_else.result c.requires.0 behind before
