-- Each move of an end keeps the rule of the pipe.
use Rattle.std.proofs.Common.{◌≡◌, ◌≢◌, ℕ, zero, suc, ◌+◌, ◌-◌, ◌<◌, ◌≤◌, true, false, true≢false}
use Rattle.std.proofs.Common.{List, [], ◌∷◌, ◌++◌, length, set, drop, Some, slice_get, refl, sym}
use Rattle.std.proofs.Common.{ap, ◌∙◌, subst, ⊎_elim, length-append, arith}
use Rattle.std.proofs.lemmas.List.{drop-append-le}
use Rattle.std.proofs.lemmas.List.Elements.{All-append}
use mathlib.Core.Option.{some, some-injective, some-ne-none}
use lib.ListN.{get_elem?}
use Rattle.crossbeam_queue.specs.Fifo.{Pushes, Pops, Forks, Merges}
use Rattle.crossbeam_queue.proofs.Lists.{at_set, at_snoc}
use Rattle.am_pipe.specs.{Note, EndView, end_view, numbered, weigh, AreTaken, FitsPipe, AllFitPipe, IsPipe, Puts, Takes}
use Rattle.am_pipe.proofs.CountLemmas.{total_set, total_snoc, total_append, length_numbered}
use Rattle.am_pipe.proofs.CountLemmas.{numbered_snoc, slice_get_more, first_left}

abbrev parts_of : EndView → ℕ
parts_of v = v.parts

abbrev got_of : (ℕ → ℕ) → EndView → ℕ
got_of h v = weigh h v.got

taken_more : (ns : List Note) (n : Note) (k : ℕ) (got : List (ℕ × Note))
    → AreTaken ns k got → AreTaken (ns ++ n ∷ []) k got
taken_more ns n k got h i d lt =
    let r = h i d lt in (r.0, r.1, slice_get_more ns n _ _ r.2)

taken_later : (ns : List Note) (k : ℕ) (got : List (ℕ × Note))
    → AreTaken ns k got → AreTaken ns (suc k) got
taken_later ns k got h i d lt = let r = h i d lt in (r.0, omega arith, r.2)

taken_none : (ns : List Note) (k : ℕ) → AreTaken ns k []
taken_none ns k i d lt = absurd (omega arith)

taken_one : (ns : List Note) (k : ℕ) (x : ℕ × Note)
    → 0 < x.0 → x.0 ≤ k → slice_get ns (x.0 - 1) ≡ Some x.1 → AreTaken ns k (x ∷ [])
taken_one ns k x a b c zero d lt = (a, b, c)
taken_one ns k x a b c (suc i) d lt = absurd (omega arith)

taken_both : (ns : List Note) (k : ℕ) (xs ys : List (ℕ × Note))
    → AreTaken ns k xs → AreTaken ns k ys → AreTaken ns k (xs ++ ys)
taken_both ns k xs ys p q =
    All-append (λ x. (0 < x.0) × (x.0 ≤ k) × (slice_get ns (x.0 - 1) ≡ Some x.1)) xs ys p q

-- an end that doesn't put has nothing to say of what was put
fits_taker : (writer made : ℕ) (sent : List Note) (taken end : ℕ) (v : EndView) → v.puts ≡ false
    → AreTaken sent taken v.got → (v.parts ≡ 0 → v.got ≡ []) → FitsPipe writer made sent taken end v
fits_taker writer made sent taken end v not held idle = record {
  writes = λ puts. absurd (true≢false (sym puts ∙ not));
  held = held;
  idle = λ none _. idle none;
}

-- what another end than the writer knows is so after a move of the writer
fits_other : (writer made more : ℕ) (sent new : List Note) (taken end : ℕ) (v : EndView)
    → end ≢ writer → FitsPipe writer made sent taken end v → AreTaken new taken v.got
    → FitsPipe writer more new taken end v
fits_other writer made more sent new taken end v apart h held = record {
  writes = λ puts. absurd (apart (h.writes puts).0);
  held = held;
  idle = h.idle;
}

-- where one view changes, what each end knows is so if that is so of this end and of the others
all_fit_set : (writer made : ℕ) (sent : List Note) (taken : ℕ) (views : List EndView) (end : ℕ)
    (w : EndView) → FitsPipe writer made sent taken end w
    → ((j : ℕ) (u : EndView) → j ≢ end → get_elem? views j ≡ some u
    → FitsPipe writer made sent taken j u)
    → AllFitPipe writer made sent taken (set views end w)
all_fit_set writer made sent taken views end w mine theirs j u at = ⊎_elim
    (λ (is : (j ≡ end) × (w ≡ u)).
    subst (λ (y : ℕ × EndView). FitsPipe writer made sent taken y.0 y.1)
    (λ i. (sym is.0 i, is.1 i)) mine)
    (λ (is : (j ≢ end) × (get_elem? views j ≡ some u)). theirs j u is.0 is.1)
    (at_set views end j w u at)

-- a new end comes
all_fit_snoc : (writer made : ℕ) (sent : List Note) (taken : ℕ) (views : List EndView)
    (v : EndView) → ((end : ℕ) → FitsPipe writer made sent taken end v)
    → AllFitPipe writer made sent taken views → AllFitPipe writer made sent taken (views ++ v ∷ [])
all_fit_snoc writer made sent taken views v new all j u at = ⊎_elim
    (λ (old : get_elem? views j ≡ some u). all j u old)
    (λ (is : v ≡ u). subst (λ (y : EndView). FitsPipe writer made sent taken j y) is (new j))
    (at_snoc views v u j at)

pub begins : IsPipe [] (end_view true 0 0 [] [] ∷ [])
begins = record {
  writer = 0;
  made = 0;
  sent = [];
  taken = 0;
  few = omega arith;
  is = refl;
  parts = refl;
  once = λ h. refl;
  each = λ end v at. only end v at;
}
  where
    first : FitsPipe 0 0 [] 0 0 (end_view true 0 0 [] [])
    first = record {
      writes = λ _. (refl, refl, refl);
      held = taken_none [] 0;
      idle = λ _ not. absurd (true≢false not);
    }

    only : AllFitPipe 0 0 [] 0 (end_view true 0 0 [] [] ∷ [])
    only zero v at = subst (λ (u : EndView). FitsPipe 0 0 [] 0 0 u) (some-injective _ v at) first
    only (suc end) v at = absurd (some-ne-none v (sym at))

pub puts : (n end : ℕ) (v : EndView) (x : ℕ × Note) → v.puts ≡ true → x.0 ≡ suc (length v.sent)
    → Pushes IsPipe n end v x (Puts v x)
puts n end v x may next items views room h at =
    let w : EndView = end_view v.puts v.made v.parts (v.sent ++ x.1 ∷ []) v.got in
    let mine = h.each end v at in
    let own = mine.writes may in
    let sent = h.sent ++ x.1 ∷ [] in
    let before = numbered 0 h.sent in
    let len : length v.sent ≡ length h.sent = ap length own.1 in
    let pair : (suc (length h.sent), x.1) ≡ x = ap (λ i. (i, x.1)) (omega arith) in
    let all : numbered 0 sent ≡ before ++ x ∷ [] =
    numbered_snoc 0 h.sent x.1 ∙ ap (λ i. before ++ (suc i, x.1) ∷ []) (omega arith)
    ∙ ap (λ p. before ++ p ∷ []) pair in
    let short : h.taken ≤ length before = omega (arith, length_numbered 0 h.sent, h.few) in (
      w,
      record {
        writer = h.writer;
        made = h.made;
        sent = sent;
        taken = h.taken;
        few = omega (arith, h.few, length-append h.sent (x.1 ∷ []));
        is = ap (λ l. l ++ x ∷ []) h.is ∙ sym (drop-append-le h.taken before (x ∷ []) short)
            ∙ ap (drop h.taken) (sym all);
        parts = (let s = total_set parts_of views end v w at in let p = h.parts in omega arith);
        once = λ f.
            (let s = total_set (got_of f) views end v w at in let p = h.once f in omega arith);
        each = all_fit_set h.writer h.made sent h.taken views end w
            (record {
              writes = λ _. (own.0, ap (λ l. l ++ x.1 ∷ []) own.1, own.2);
              held = taken_more h.sent x.1 h.taken v.got mine.held;
              idle = mine.idle;
            })
            (λ j u apart there.
            let theirs = h.each j u there in
            fits_other h.writer h.made h.made h.sent sent h.taken j u
            (λ is. apart (is ∙ sym own.0)) theirs
            (taken_more h.sent x.1 h.taken u.got theirs.held));
      },
      refl,
    )

pub takes : (end : ℕ) (v : EndView) → (v.parts ≡ 0 → v.puts ≡ true) → Pops IsPipe end v (Takes v)
takes end v may x items views h at =
    let w : EndView = end_view v.puts v.made v.parts v.sent (v.got ++ x ∷ []) in
    let mine = h.each end v at in
    let later = suc h.taken in
    let f = first_left 0 h.sent h.taken x items h.is in
    let here : x.0 ≡ later = f.2 ∙ ap suc (omega arith) in
    let place : slice_get h.sent (x.0 - 1) ≡ Some x.1 =
    ap (slice_get h.sent) (omega arith) ∙ f.3 in
    let one : AreTaken h.sent later (x ∷ []) =
    taken_one h.sent later x (omega arith) (omega arith) place in (
      w,
      record {
        writer = h.writer;
        made = h.made;
        sent = h.sent;
        taken = later;
        few = omega (arith, f.0);
        is = f.1;
        parts = (let s = total_set parts_of views end v w at in let p = h.parts in omega arith);
        once = λ g.
            (let s = total_set (got_of g) views end v w at in
            let p = h.once g in
            let e : g x.0 ≡ g later = ap g here in
            omega (arith, total_snoc (λ (y : ℕ × Note). g y.0) v.got x));
        each = all_fit_set h.writer h.made h.sent later views end w
            (record {
              writes = mine.writes;
              held = taken_both h.sent later v.got (x ∷ [])
                  (taken_later h.sent h.taken v.got mine.held) one;
              idle = λ none not. absurd (true≢false (sym (may none) ∙ not));
            })
            (λ j u apart there.
            let theirs = h.each j u there in
            record {
              writes = theirs.writes;
              held = taken_later h.sent h.taken u.got theirs.held;
              idle = theirs.idle;
            });
      },
      (refl, λ k d lt. (let r = mine.held k d lt in omega arith)),
    )

pub forks : (end : ℕ) (v : EndView) → v.puts ≡ true
    → Forks IsPipe end v (end_view v.puts (v.made + 1) v.parts v.sent v.got)
    (end_view false 0 1 [] [])
forks end v may items views h at =
    let l : EndView = end_view v.puts (v.made + 1) v.parts v.sent v.got in
    let r : EndView = end_view false 0 1 [] [] in
    let mine = h.each end v at in
    let own = mine.writes may in
    let made = h.made + 1 in
    let vs = set views end l in record {
      writer = h.writer;
      made = made;
      sent = h.sent;
      taken = h.taken;
      few = h.few;
      is = h.is;
      parts = (let s = total_set parts_of views end v l at in
          let p = h.parts in
          omega (arith, total_snoc parts_of vs r));
      once = λ g.
          (let s = total_set (got_of g) views end v l at in
          let p = h.once g in
          omega (arith, total_snoc (got_of g) vs r));
      each = all_fit_snoc h.writer made h.sent h.taken vs r
          (λ j. fits_taker h.writer made h.sent h.taken j r refl (taken_none h.sent h.taken)
          (λ _. refl))
          (all_fit_set h.writer made h.sent h.taken views end l
          (record {
            writes = λ _. (own.0, own.1, ap (λ k. k + 1) own.2);
            held = mine.held;
            idle = mine.idle;
          })
          (λ j u apart there.
          let theirs = h.each j u there in
          fits_other h.writer h.made made h.sent h.sent h.taken j u
          (λ is. apart (is ∙ sym own.0)) theirs theirs.held));
    }

pub merges : (end : ℕ) (v : EndView) (other : ℕ) (u : EndView) → v.puts ≡ true → u.puts ≡ false
    → Merges IsPipe end v other u
    (end_view v.puts v.made (v.parts + u.parts) v.sent (v.got ++ u.got))
    (end_view false 0 0 [] [])
merges end v other u may not_theirs items views h at apart there =
    let both : EndView = end_view v.puts v.made (v.parts + u.parts) v.sent (v.got ++ u.got) in
    let none : EndView = end_view false 0 0 [] [] in
    let mine = h.each end v at in
    let own = mine.writes may in
    let vs = set views end both in
    let was : get_elem? views other ≡ some u =
    ⊎_elim (λ x. absurd (apart x.0)) (λ x. x.1) (at_set views end other both u there) in
    let theirs = h.each other u was in record {
      writer = h.writer;
      made = h.made;
      sent = h.sent;
      taken = h.taken;
      few = h.few;
      is = h.is;
      parts = (let s = total_set parts_of views end v both at in
          let t = total_set parts_of vs other u none there in
          let p = h.parts in
          omega arith);
      once = λ g.
          (let s = total_set (got_of g) views end v both at in
          let t = total_set (got_of g) vs other u none there in
          let p = h.once g in
          omega (arith, total_append (λ (y : ℕ × Note). g y.0) v.got u.got));
      each = all_fit_set h.writer h.made h.sent h.taken vs other none
          (fits_taker h.writer h.made h.sent h.taken other none refl (taken_none h.sent h.taken)
          (λ _. refl))
          (λ j y _ is.
          all_fit_set h.writer h.made h.sent h.taken views end both
          (record {
            writes = λ _. own;
            held = taken_both h.sent h.taken v.got u.got mine.held theirs.held;
            idle = λ _ not. absurd (true≢false (sym may ∙ not));
          })
          (λ k z _ old. h.each k z old) j y is);
    }
