use Rattle.std.proofs.Common.{◌≡◌, ◌+◌, ◌++◌, true, vec_len}
use Rattle.std.specs.Vec.Iter.{into_iter_items, into_iter_len}
use Rattle.am_shared.specs.{EachRise}
use Rattle.am_shared.specs.Calls.{all_calls}
use Rattle.am_shared.specs.Passes.{IsOn, view_of}
use Rattle.am_shared.proofs.gathering.hand_all_in.Given as goal

abbrev pub invariant-loop-caller : goal.invariant-loop-caller
invariant-loop-caller g l = record {
  can : (goal.iterator-loop-caller g).can_next l.caller-iterator;
  finite : (goal.iterator-loop-caller g).is_finite l.caller-iterator;
  on : IsOn g.L.Opened.logbook l.keeping;
  keeps : (view_of l.keeping).keeps ≡ true;
  made : (view_of l.keeping).made ≡ (view_of l.initial.keeping).made;
  all : (view_of l.keeping).all ≡ (view_of l.initial.keeping).all;
  parts : (view_of l.keeping).parts + into_iter_len l.caller-iterator ≡ (view_of l.initial.keeping).parts + vec_len l.fn.callers;
  mine : (view_of l.keeping).mine ++ all_calls (into_iter_items l.caller-iterator) ≡ (view_of l.initial.keeping).mine ++ all_calls l.fn.callers.items;
  rise : EachRise (into_iter_items l.caller-iterator) → EachRise l.fn.callers.items;
}
