-- Each move of a pass keeps the one history.
use Rattle.std.proofs.Common.{◌≡◌, ◌≢◌, ℕ, zero, suc, ◌+◌, ◌-◌, ◌<◌, true, false, true≢false}
use Rattle.std.proofs.Common.{List, [], ◌∷◌, ◌++◌, length, set, Some, slice_get, Bool, refl, sym}
use Rattle.std.proofs.Common.{ap, ◌∙◌, subst, ⊎_elim, length-append, arith, append_assoc}
use Rattle.std.proofs.lemmas.List.{append-nil}
use Rattle.std.proofs.lemmas.List.Elements.{All-append}
use Rattle.std.specs.Prelude.{slice_set}
use mathlib.Core.Option.{Option, some, some-injective, some-ne-none}
use mathlib.Core.List.{IsPrefix}
use lib.ListN.{get_elem?}
use Rattle.atomic_table.specs.Table.{State, Me, Allows, Splits, Joins, opening, keeps}
use Rattle.atomic_table.proofs.Lists.{at_set, at_snoc, set_again}
use Rattle.am_machine.specs.{Entry}
use Rattle.am_shared.specs.declared.chronicle.Known.{Known}
use Rattle.am_shared.specs.Chronicle.{spent, keeper, caller, weigh, weigh_to, AreIn, FitsHistory, AllFitHistory, IsHistory}
use Rattle.am_shared.specs.Chronicle.{taken_in, rested, given_back, with_caller, recorded, Learned}
use Rattle.am_shared.proofs.SumLemmas.{total_set, total_snoc, total_append, total_all, total_one}

abbrev parts_of : Known → ℕ
parts_of v = v.parts

abbrev mine_of : (ℕ → ℕ) → Known → ℕ
mine_of h v = weigh h v.mine

get_more : (log more : List Entry) (k : ℕ) (e : Entry) → slice_get log k ≡ Some e
    → slice_get (log ++ more) k ≡ Some e
get_more [] more k e is = absurd cc
get_more (x ∷ xs) more zero e is = is
get_more (x ∷ xs) more (suc k) e is = get_more xs more k e is

pub get_last : (log : List Entry) (e : Entry) → slice_get (log ++ e ∷ []) (length log) ≡ Some e
get_last [] e = refl
get_last (x ∷ xs) e = get_last xs e

pub in_more : (log more : List Entry) (calls : List (ℕ × Entry)) → AreIn log calls → AreIn (log ++ more) calls
in_more log more calls h k d lt =
    let r = h k d lt in (r.0, get_more log more _ _ r.1)

in_none : (log : List Entry) → AreIn log []
in_none log k d lt = absurd (omega arith)

pub in_both : (log : List Entry) (xs ys : List (ℕ × Entry)) → AreIn log xs → AreIn log ys → AreIn log (xs ++ ys)
in_both log xs ys p q =
    All-append (λ x. (0 < x.0) × (slice_get log (x.0 - 1) ≡ Some x.1)) xs ys p q

pub in_one : (log : List Entry) (n : ℕ) (e : Entry) → 0 < n → slice_get log (n - 1) ≡ Some e → AreIn log ((n, e) ∷ [])
in_one log n e some_place at zero d lt = (some_place, at)
in_one log n e some_place at (suc k) d lt = absurd (omega arith)

longer : (seen log more : List Entry) → IsPrefix seen log → IsPrefix seen (log ++ more)
longer seen log more p = (p.0 ++ more, sym (append_assoc seen p.0 more) ∙ ap (λ l. l ++ more) p.1)

whole : (log : List Entry) → IsPrefix log log
whole log = ([], append-nil log)

none_seen : (log : List Entry) → IsPrefix [] log
none_seen log = (log, refl)

-- a pass that doesn't keep the history
fits_caller : (keeping made : ℕ) (log : List Entry) (pass : ℕ) (v : Known) → v.keeps ≡ false
    → AreIn log v.mine → IsPrefix v.seen log → (v.parts ≡ 0 → v.mine ≡ [])
    → FitsHistory keeping made log pass v
fits_caller keeping made log pass v not calls seen idle = record {
  all = λ keeps. absurd (true≢false (sym keeps ∙ not));
  calls = calls;
  seen = seen;
  idle = λ none _. idle none;
}

fits_spent : (keeping made : ℕ) (log : List Entry) (pass : ℕ) → FitsHistory keeping made log pass spent
fits_spent keeping made log pass =
    fits_caller keeping made log pass spent refl (in_none log) (none_seen log) (λ _. refl)

-- what another pass than the keeper knows is so after a move of the keeper
fits_other : (keeping made more : ℕ) (log new : List Entry) (pass : ℕ) (v : Known) → pass ≢ keeping
    → FitsHistory keeping made log pass v → AreIn new v.mine → IsPrefix v.seen new
    → FitsHistory keeping more new pass v
fits_other keeping made more log new pass v apart h calls seen = record {
  all = λ keeps. absurd (apart (h.all keeps).0);
  calls = calls;
  seen = seen;
  idle = h.idle;
}

all_fit_set : (keeping made : ℕ) (log : List Entry) (views : List Known) (pass : ℕ) (w : Known)
    → FitsHistory keeping made log pass w
    → ((j : ℕ) (u : Known) → j ≢ pass → get_elem? views j ≡ some u → FitsHistory keeping made log j u)
    → AllFitHistory keeping made log (set views pass w)
all_fit_set keeping made log views pass w mine theirs j u at = ⊎_elim
    (λ (is : (j ≡ pass) × (w ≡ u)).
    subst (λ (y : ℕ × Known). FitsHistory keeping made log y.0 y.1) (λ i. (sym is.0 i, is.1 i)) mine)
    (λ (is : (j ≢ pass) × (get_elem? views j ≡ some u)). theirs j u is.0 is.1)
    (at_set views pass j w u at)

all_fit_snoc : (keeping made : ℕ) (log : List Entry) (views : List Known) (v : Known)
    → ((pass : ℕ) → FitsHistory keeping made log pass v) → AllFitHistory keeping made log views
    → AllFitHistory keeping made log (views ++ v ∷ [])
all_fit_snoc keeping made log views v new all j u at = ⊎_elim
    (λ (old : get_elem? views j ≡ some u). all j u old)
    (λ (is : v ≡ u). subst (λ (y : Known). FitsHistory keeping made log j y) is (new j))
    (at_snoc views v u j at)

module _ {S : Type 0} where
  pub opens : (ws : List ℕ) (xs : List S) → IsHistory (opening ws xs (keeper 0 []))
  opens ws xs = record {
    keeps = 0;
    made = 0;
    log = [];
    parts = refl;
    once = λ h. refl;
    each = only;
  }
    where
      first : FitsHistory 0 0 [] 0 (keeper 0 [])
      first = record {
        all = λ _. (refl, refl, refl);
        calls = in_none [];
        seen = none_seen [];
        idle = λ _ not. absurd (true≢false not);
      }

      only : AllFitHistory 0 0 [] (keeper 0 [] ∷ [])
      only zero v at = subst (λ (u : Known). FitsHistory 0 0 [] 0 u) (some-injective _ v at) first
      only (suc pass) v at = absurd (some-ne-none v (sym at))

  -- a caller comes
  pub comes : (pass : ℕ) (v : Known) → v.keeps ≡ true
      → Splits {S = S} IsHistory pass v (with_caller v) (caller [] [])
  comes pass v may s h at =
      let l : Known = with_caller v in
      let r : Known = caller [] [] in
      let mine = h.each pass v at in
      let own = mine.all may in
      let made = h.made + 1 in
      let vs = set s.views pass l in record {
        keeps = h.keeps;
        made = made;
        log = h.log;
        parts = (let t = total_set parts_of s.views pass v l at in
            let p = h.parts in
            omega (arith, t, p, total_snoc parts_of vs r));
        once = λ f.
            (let t = total_set (mine_of f) s.views pass v l at in
            let p = h.once f in
            omega (arith, t, p, total_snoc (mine_of f) vs r));
        each = all_fit_snoc h.keeps made h.log vs r
            (λ j. fits_caller h.keeps made h.log j r refl (in_none h.log) (none_seen h.log) (λ _. refl))
            (all_fit_set h.keeps made h.log s.views pass l
            (record {
              all = λ _. (own.0, own.1, ap (λ k. k + 1) own.2);
              calls = mine.calls;
              seen = mine.seen;
              idle = mine.idle;
            })
            (λ j u apart there.
            let theirs = h.each j u there in
            fits_other h.keeps h.made made h.log h.log j u (λ is. apart (is ∙ sym own.0)) theirs
            theirs.calls theirs.seen));
      }

  -- a pass that doesn't keep the history is cut off its place
  pub hands : (pass : ℕ) (v : Known) → v.keeps ≡ false → Splits {S = S} IsHistory pass v spent v
  hands pass v not s h at =
      let mine = h.each pass v at in
      let vs = set s.views pass spent in record {
        keeps = h.keeps;
        made = h.made;
        log = h.log;
        parts = (let t = total_set parts_of s.views pass v spent at in
            let p = h.parts in
            omega (arith, t, p, total_snoc parts_of vs v));
        once = λ f.
            (let t = total_set (mine_of f) s.views pass v spent at in
            let p = h.once f in
            omega (arith, t, p, total_snoc (mine_of f) vs v));
        each = all_fit_snoc h.keeps h.made h.log vs v
            (λ j. fits_caller h.keeps h.made h.log j v not mine.calls mine.seen (λ none. mine.idle none not))
            (all_fit_set h.keeps h.made h.log s.views pass spent
            (fits_spent h.keeps h.made h.log pass) (λ j u _ there. h.each j u there));
      }

  -- the keeper takes a pass in
  pub takes_in : (pass : ℕ) (v : Known) (other : ℕ) (u : Known) → v.keeps ≡ true → u.keeps ≡ false
      → Joins {S = S} IsHistory pass v other u (taken_in v u) spent
  takes_in pass v other u may not s h at apart there =
      let both : Known = taken_in v u in
      let mine = h.each pass v at in
      let own = mine.all may in
      let vs = set s.views pass both in
      let was : get_elem? s.views other ≡ some u =
      ⊎_elim (λ x. absurd (apart x.0)) (λ x. x.1) (at_set s.views pass other both u there) in
      let theirs = h.each other u was in record {
        keeps = h.keeps;
        made = h.made;
        log = h.log;
        parts = (let t = total_set parts_of s.views pass v both at in
            let r = total_set parts_of vs other u spent there in
            let p = h.parts in
            omega (arith, t, r, p));
        once = λ f.
            (let t = total_set (mine_of f) s.views pass v both at in
            let r = total_set (mine_of f) vs other u spent there in
            let p = h.once f in
            omega (arith, t, r, p, total_append (λ (y : ℕ × Entry). f y.0) v.mine u.mine));
        each = all_fit_set h.keeps h.made h.log vs other spent (fits_spent h.keeps h.made h.log other)
            (λ j y _ is.
            all_fit_set h.keeps h.made h.log s.views pass both
            (record {
              all = λ _. own;
              calls = in_both h.log v.mine u.mine mine.calls theirs.calls;
              seen = theirs.seen;
              idle = λ _ none. absurd (true≢false (sym may ∙ none));
            })
            (λ k z _ old. h.each k z old) j y is);
      }

  -- and gives it back, as one that has seen all
  pub rests : (pass : ℕ) (v : Known) → v.keeps ≡ true → v.parts ≡ 1
      → Splits {S = S} IsHistory pass v (rested v) (given_back v)
  rests pass v may one s h at =
      let l : Known = rested v in
      let r : Known = given_back v in
      let mine = h.each pass v at in
      let own = mine.all may in
      let vs = set s.views pass l in record {
        keeps = h.keeps;
        made = h.made;
        log = h.log;
        parts = (let t = total_set parts_of s.views pass v l at in
            let p = h.parts in
            omega (arith, t, p, total_snoc parts_of vs r));
        once = λ f.
            (let t = total_set (mine_of f) s.views pass v l at in
            let p = h.once f in
            omega (arith, t, p, total_snoc (mine_of f) vs r));
        each = all_fit_snoc h.keeps h.made h.log vs r
            (λ j. fits_caller h.keeps h.made h.log j r refl mine.calls
            (subst (λ (l : List Entry). IsPrefix l h.log) (sym own.1) (whole h.log))
            (λ none. absurd (omega (arith, none, one))))
            (all_fit_set h.keeps h.made h.log s.views pass l
            (record {
              all = λ _. own;
              calls = in_none h.log;
              seen = none_seen h.log;
              idle = λ _ _. refl;
            })
            (λ j u _ there. h.each j u there));
      }

  -- what the keeper learns
  pub learned : (s : State S Known) (pass : ℕ) (v : Known) → v.keeps ≡ true → IsHistory s
      → get_elem? s.views pass ≡ some v → Learned v
  learned s pass v may h at =
      let mine = h.each pass v at in
      let own = mine.all may in
      let most = total_one parts_of s.views pass v at in record {
        few = omega (arith, most, h.parts, own.2);
        calls = subst (λ (l : List Entry). AreIn l v.mine) (sym own.1) mine.calls;
        seen = subst (λ (l : List Entry). IsPrefix v.seen l) (sym own.1) mine.seen;
        once = λ all f.
            sym (total_all parts_of (mine_of f) s.views pass v at (h.parts ∙ sym own.2 ∙ sym all)
            (λ other u apart there none.
            let theirs = h.each other u there in
            let quiet : (b : Bool) → u.keeps ≡ b → weigh f u.mine ≡ 0 =
            elim [
              | true ↦ λ p. absurd (apart ((theirs.all p).0 ∙ sym own.0))
              | false ↦ λ p. ap (weigh f) (theirs.idle none p)
            ] in
            quiet u.keeps refl))
            ∙ h.once f ∙ ap (λ (l : List Entry). weigh_to f (length l)) (sym own.1);
      }

  -- words don't matter, nor does a view that is set once more
  same_history : (s : State S Known) (pass : ℕ) (v : Known) (ws : List ℕ) (homes : List (Option S))
      → IsHistory s → get_elem? s.views pass ≡ some v
      → IsHistory (record { words = ws; homes = homes; views = slice_set s.views pass v })
  same_history s pass v ws homes h at = subst
      (λ (views : List Known). IsHistory (record { words = ws; homes = homes; views = views }))
      (sym (set_again s.views pass v at)) (record {
        keeps = h.keeps;
        made = h.made;
        log = h.log;
        parts = h.parts;
        once = h.once;
        each = h.each;
      })

  pub learns : (slots pass : ℕ) (me : Me S Known) (word : ℕ) → (me.0).keeps ≡ true
      → Allows IsHistory slots pass me word (λ n. n) (λ n me'. (me' ≡ me) × Learned me.0)
  learns slots pass me word may s h len at small = (
    me.0,
    keeps,
    tt,
    same_history s pass me.0 _ _ h at,
    (refl, learned s pass me.0 may h at),
  )

-- an entry comes
pub records : (slots pass : ℕ) (me : Me Entry Known) (word : ℕ) (f : ℕ → ℕ) (e : Entry)
    → (me.0).keeps ≡ true
    → Allows IsHistory slots pass me word f (λ n me'. me' ≡ (recorded me.0 e, me.1))
records slots pass me word f e may s h len at small =
    let v = me.0 in
    let w : Known = recorded v e in
    let mine = h.each pass v at in
    let own = mine.all may in
    let log = h.log ++ e ∷ [] in
    let place : ℕ × Entry = (length v.all + 1, e) in
    let long : length v.all ≡ length h.log = ap length own.1 in
    let there : slice_get log ((length v.all + 1) - 1) ≡ Some e =
    ap (slice_get log) (omega (arith, long)) ∙ get_last h.log e in (
      w,
      keeps,
      tt,
      record {
        keeps = h.keeps;
        made = h.made;
        log = log;
        parts = (let t = total_set parts_of s.views pass v w at in
            let p = h.parts in
            omega (arith, t, p));
        once = λ g.
            (let t = total_set (mine_of g) s.views pass v w at in
            let p = h.once g in
            let n : length log ≡ suc (length h.log) = omega (arith, length-append h.log (e ∷ [])) in
            let to : weigh_to g (length log) ≡ weigh_to g (length h.log) + g (suc (length h.log)) =
            ap (weigh_to g) n in
            let here : g (length v.all + 1) ≡ g (suc (length h.log)) = ap g (omega (arith, long)) in
            omega (arith, t, p, to, here, total_snoc (λ (y : ℕ × Entry). g y.0) v.mine place));
        each = all_fit_set h.keeps h.made log s.views pass w
            (record {
              all = λ _. (own.0, ap (λ l. l ++ e ∷ []) own.1, own.2);
              calls = in_both log v.mine (place ∷ []) (in_more h.log (e ∷ []) v.mine mine.calls)
                  (in_one log (length v.all + 1) e (omega arith) there);
              seen = longer v.seen h.log (e ∷ []) mine.seen;
              idle = λ _ none. absurd (true≢false (sym may ∙ none));
            })
            (λ j u apart is.
            let theirs = h.each j u is in
            fits_other h.keeps h.made h.made h.log log j u (λ same. apart (same ∙ sym own.0)) theirs
            (in_more h.log (e ∷ []) u.mine theirs.calls) (longer u.seen h.log (e ∷ []) theirs.seen));
      },
      refl,
    )
