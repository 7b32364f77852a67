-- What the put end learns of the queue, and what is left at the end.
use Rattle.std.proofs.Common.{◌≡◌, ◌≢◌, ℕ, ◌+◌, Bool, true, false, List, [], ◌∷◌, ◌++◌}
use Rattle.std.proofs.Common.{length, drop, refl, sym, ap, ◌∙◌, subst, append_assoc, length-drop}
use Rattle.std.proofs.Common.{arith, All}
use Rattle.std.proofs.lemmas.List.{append-nil}
use Rattle.std.proofs.lemmas.List.Elements.{All-push}
use mathlib.Core.Option.{some}
use lib.ListN.{get_elem?}
use Rattle.crossbeam_queue.specs.Fifo.{Learns}
use Rattle.am_pipe.specs.{Note, EndView, Taker, taken_by, total, AreAsPut, numbered, weigh, weigh_to, AreTaken, IsPipe, HoldsRest, KnowsAll}
use Rattle.am_pipe.proofs.CountLemmas.{total_all, count_to, count_of, length_numbered}

-- the put end knows that the queue holds what it put, but for the first of it
pub rests : (end : ℕ) (v : EndView) → v.puts ≡ true → Learns IsPipe end v (HoldsRest v)
rests end v may items views h at =
    let own = (h.each end v at).writes may in (
      h.taken,
      omega (arith, h.few, ap length own.1),
      h.is ∙ ap (λ l. drop h.taken (numbered 0 l)) (sym own.1),
    )

-- the put end that stands for all take ends knows all
pub knows : (end : ℕ) (v : EndView) → v.puts ≡ true → v.parts ≡ v.made
    → Learns IsPipe end v (KnowsAll v)
knows end v may all items views h at =
    let mine = h.each end v at in
    let own = mine.writes may in
    let whole : total (λ (u : EndView). u.parts) views ≡ v.parts =
    h.parts ∙ sym own.2 ∙ sym all in
    let idle : (g : ℕ → ℕ) (other : ℕ) (u : EndView) → other ≢ end
    → get_elem? views other ≡ some u → u.parts ≡ 0 → weigh g u.got ≡ 0 =
    λ g other u apart there none.
    (let theirs = h.each other u there in
    let quiet : (b : Bool) → u.puts ≡ b → weigh g u.got ≡ 0 =
    elim [
      | true ↦ λ p. absurd (apart ((theirs.writes p).0 ∙ sym own.0))
      | false ↦ λ p. ap (weigh g) (theirs.idle none p)
    ] in
    quiet u.puts refl) in
    let mine_all : (g : ℕ → ℕ) → weigh g v.got ≡ weigh_to g h.taken =
    λ g. sym (total_all (λ (u : EndView). u.parts) (λ (u : EndView). weigh g u.got) views end v at
    whole (idle g)) ∙ h.once g in
    let count : length v.got ≡ h.taken =
    sym (count_of v.got) ∙ mine_all (λ _. 1) ∙ count_to h.taken in record {
      few = omega (arith, h.few, ap length own.1);
      is = h.is ∙ (λ i. drop (sym count i) (numbered 0 (sym own.1 i)));
      held = subst (λ (y : List Note × ℕ). AreTaken y.0 y.1 v.got)
          (λ i. (sym own.1 i, sym count i)) mine.held;
      once = λ g. mine_all g ∙ ap (weigh_to g) (sym count);
    }

pub as_put : (ns : List Note) (k : ℕ) (got : List (ℕ × Note)) → AreTaken ns k got → AreAsPut ns got
as_put ns k got h i d lt = let r = h i d lt in (r.0, r.2)

-- what is left and what was taken are as many as were put
pub left_count : (v : EndView) (items : List (ℕ × Note)) (n : ℕ) → length items ≡ n
    → KnowsAll v items → length v.got + n ≡ length v.sent
left_count v items n len all =
    let sent = numbered 0 v.sent in
    omega (
      arith,
      len,
      all.few,
      ap length all.is,
      length-drop (length v.got) sent,
      length_numbered 0 v.sent,
    )

pub taken_by_snoc : (ts : List Taker) (t : Taker)
    → taken_by (ts ++ t ∷ []) ≡ taken_by ts ++ t.got
taken_by_snoc [] t = append-nil t.got
taken_by_snoc (x ∷ xs) t =
    ap (λ l. x.got ++ l) (taken_by_snoc xs t) ∙ sym (append_assoc x.got (taken_by xs) t.got)

pub all_snoc : {A : Type 0} (P : A → Type 0) (xs : List A) (x : A) → All P xs → P x
    → All P (xs ++ x ∷ [])
all_snoc P xs x all here = All-push P xs x all here
