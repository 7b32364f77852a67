-- What a run comes to when all are back.
use Rattle.std.proofs.Common.{◌≡◌, ℕ, ◌*◌, Bor, List, ◌++◌, Option, Some, None, Ok, IfSome, All, ap, sym, subst, true}
use Rattle.std.proofs.Common.{arith}
use Rattle.std.proofs.lemmas.List.Elements.{All-pop}
use Rattle.std.specs.Option.{ok_or}
use Rattle.std.specs.Prelude.{option_to_list}
use Rattle.atomic_table.specs.Seated.{TableId}
use Rattle.am_machine.specs.{Setup}
use Rattle.am_pipe.specs.{Note, Taker, taken_by}
use Rattle.am_shared.specs.{Account, AreThePackets, IsSharedFrom, Matches, keeps_events, waiting}
use Rattle.am_shared.specs.Sharing.{Sharing}
use Rattle.am_runner.specs.{IsAuto, IsRun, IsTally, Plan, Tally, TakePart, auto_plan, keep_of}
use Rattle.am_runner.specs.Runs.{IsTallyOf}

-- the history of a run is the merge of what each made who took part
pub run_of : (opening : Setup) (plan : Plan) (pipe : TableId) (workers : ℕ) (s : Sharing)
    (takers : List Taker) (callers : List Account) (left : List (ℕ × Note))
    → IsSharedFrom opening s → s.put.pipe ≡ pipe → TakePart plan pipe workers takers callers
    → Matches s.history callers → AreThePackets s ((taken_by takers ++ left) ++ waiting s)
    → s.put.room ≡ plan.capacity → s.keep ≡ keep_of plan.watched → IsRun opening plan workers left s
run_of opening plan pipe workers s takers callers left from is take matched packets room keep = record {
  from = from;
  callers = callers;
  takers = takers;
  take_part = subst (λ (p : TableId). TakePart plan p workers takers callers) (sym is) take;
  matched = matched;
  packets = packets;
  room = room;
  keep = keep;
}

taken : {E X : Type 0} (e : E) (P : X → Type 0) (o : Option X) (x : X) → ok_or o e ≡ Ok x → IfSome o P → P x
taken e P (Some y) x is holds = let same : y ≡ x = cc in subst P same holds
taken e P None x is holds = grind arith

-- what is taken from the end of a list has what each of its elements has
pub popped : {E X : Type 0} (e : E) (P : X → Type 0) (xs ys : List X) (o : Option X) (x : X)
    → ok_or o e ≡ Ok x → xs ≡ ys ++ option_to_list o → All P xs → P x
popped e P xs ys o x is pops all = taken e P o x is (All-pop P xs ys o pops all).1

-- the tally of a run that was counted in the world which the run left
pub tally_of_run : (walkers workers rounds n : ℕ) (opening : Setup) (left : List (ℕ × Note)) (tally : Tally)
    → IsAuto opening → n ≡ workers → tally.rounds ≡ walkers * rounds
    → ((s : Sharing) × IsRun opening (auto_plan walkers rounds) n left s
    × ((x : Bor Sharing) × (keeps_events x.now.keep ≡ true → IsTallyOf tally x.now) × (x.now ≡ s)))
    → IsTally walkers workers rounds tally
tally_of_run walkers workers rounds n opening left tally is_auto many asked (s, run, (x, told, same)) = record {
  opening = opening;
  is_auto = is_auto;
  shared = s;
  left = left;
  run = subst (λ k. IsRun opening (auto_plan walkers rounds) k left s) many run;
  tally_is = subst (λ (y : Sharing). keeps_events y.keep ≡ true → IsTallyOf tally y) same told
      (ap keeps_events run.keep);
  asked = asked;
}
