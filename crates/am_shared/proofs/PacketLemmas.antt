-- What was taken, what is left and what waits are the packets.
use Rattle.std.proofs.Common.{◌≡◌, ℕ, zero, suc, ◌+◌, ◌-◌, ◌<◌, List, [], ◌∷◌, ◌++◌, length, Some, slice_get}
use Rattle.std.proofs.Common.{refl, ap, ◌∙◌, subst, arith, length-append}
use Rattle.std.proofs.lemmas.List.Elements.{All-append}
use Rattle.std.proofs.lemmas.Bool.Decides.{nat_tests}
use Rattle.am_pipe.specs.{Note, AreAsPut, numbered, once_to}
use Rattle.std.specs.Prelude.{if◌then◌else◌, ◌==◌}
use Rattle.am_pipe.specs.Ends.{HasEachOnce, times}
use Rattle.am_pipe.proofs.CountLemmas.{total_append}
use Rattle.am_shared.specs.{AreThePackets, IsShared, notes_of, waiting}
use Rattle.am_shared.specs.Sharing.{Sharing}

slice_get_front : {A : Type 0} (xs ys : List A) (k : ℕ) (x : A) → slice_get xs k ≡ Some x
    → slice_get (xs ++ ys) k ≡ Some x
slice_get_front [] ys k x is = absurd cc
slice_get_front (y ∷ xs) ys zero x is = is
slice_get_front (y ∷ xs) ys (suc k) x is = slice_get_front xs ys k x is

slice_get_behind : {A : Type 0} (xs ys : List A) (k : ℕ) → slice_get (xs ++ ys) (length xs + k) ≡ slice_get ys k
slice_get_behind [] ys k = ap (slice_get ys) (omega arith)
slice_get_behind (x ∷ xs) ys k =
    let next : length (x ∷ xs) + k ≡ suc (length xs + k) = omega arith in
    ap (slice_get (x ∷ (xs ++ ys))) next ∙ slice_get_behind xs ys k

-- notes that are as put stay so when more are put
more_put : (sent more : List Note) (notes : List (ℕ × Note)) → AreAsPut sent notes
    → AreAsPut (sent ++ more) notes
more_put sent more notes h k d lt =
    let r = h k d lt in (r.0, slice_get_front sent more _ _ r.1)

-- those that are numbered behind the others are as put
numbered_put : (all : List Note) (from : ℕ) (notes : List Note)
    → ((k : ℕ) (n : Note) → slice_get notes k ≡ Some n → slice_get all (from + k) ≡ Some n)
    → AreAsPut all (numbered from notes)
numbered_put all from [] there k d lt = absurd (omega arith)
numbered_put all from (n ∷ ns) there zero d lt =
    (omega arith, ap (slice_get all) (omega arith) ∙ there 0 n refl)
numbered_put all from (n ∷ ns) there (suc k) d lt =
    numbered_put all (suc from) ns
    (λ j m is. ap (slice_get all) (omega arith) ∙ there (suc j) m is) k d (omega arith)

-- each of their positions stands there once
numbered_once : (from : ℕ) (notes : List Note) (position : ℕ)
    → times position (numbered from notes) + once_to from position ≡ once_to (from + length notes) position
numbered_once from [] position =
    let same : from ≡ from + length {A = Note} [] = omega arith in
    let all = ap (λ (n : ℕ). once_to n position) same in
    omega (arith, all)
numbered_once from (n ∷ ns) position =
    let rest = numbered_once (suc from) ns position in
    let sum : suc from + length ns ≡ from + length (n ∷ ns) = omega arith in
    let all = ap (λ (n : ℕ). once_to n position) sum in
    let step : (if suc from == position then 1 else 0) + once_to from position ≡ once_to (suc from) position =
    grind (arith, nat_tests) in
    omega (arith, rest, all, step)

pub packets_once : (s : Sharing) (notes : List (ℕ × Note)) → IsShared s → AreAsPut s.put.sent notes
    → HasEachOnce (length s.put.sent) notes → AreThePackets s (notes ++ waiting s)
packets_once s notes h each once =
    let all : s.put.sent ++ s.unsent ≡ notes_of s.world.trace = h.kept.notes in
    let put = more_put s.put.sent s.unsent notes each in
    let wait = numbered_put (s.put.sent ++ s.unsent) (length s.put.sent) s.unsent
    (λ k n is. slice_get_behind s.put.sent s.unsent k ∙ is) in
    let both : AreAsPut (s.put.sent ++ s.unsent) (notes ++ waiting s) =
    All-append (λ (x : ℕ × Note). (0 < x.0) × (slice_get (s.put.sent ++ s.unsent) (x.0 - 1) ≡ Some x.1))
    notes (waiting s) put wait in record {
      each = subst (λ (l : List Note). AreAsPut l (notes ++ waiting s)) all both;
      once = λ p.
          (let t = total_append (λ (x : ℕ × Note). if x.0 == p then 1 else 0) notes (waiting s) in
          let o = once p in
          let w = numbered_once (length s.put.sent) s.unsent p in
          let l = ap (λ (n : ℕ). once_to n p) (length-append s.put.sent s.unsent) in
          omega (arith, t, o, w, l))
          ∙ ap (λ (l : List Note). once_to (length l) p) all;
    }
