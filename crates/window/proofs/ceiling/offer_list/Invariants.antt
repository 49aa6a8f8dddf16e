use Rattle.window.specs.Windows.{limits, Inside, Placed}
use Rattle.window.proofs.ceiling.offer_list.Given as goal

abbrev pub invariant-loop-i : goal.invariant-loop-i
invariant-loop-i l = record {
  placed : Placed l.m l.words l.pos l.n;
  inside : Inside (limits l.interval l.m) l.m l.initial.pos l.initial.n → Inside (limits l.interval l.m) l.m l.pos l.n;
}
