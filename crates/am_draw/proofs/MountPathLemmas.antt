-- The bytes of a path from one place to another are those of its parts.
use Rattle.std.proofs.Common.{◌≡◌, ◌≢◌, ◌<◌, ◌≤◌, ℕ, zero, suc, ◌+◌, ◌-◌, Bool, true, false, List, [], ◌∷◌, ◌++◌, length, take, drop, codes, Option, Some, refl, sym, ap, ap₂, ◌∙◌, append-nil, arith, ⊎_elim, take_all, if◌then◌else◌}
use Rattle.std.proofs.lemmas.Bool.{cases_lt, le-ltb, lt-ltb}
use Rattle.std.proofs.lemmas.Grind.{flat_map-append}
use Rattle.am_names.specs.{MountRow, Position, text_of}
use Rattle.am_draw.specs.{between, path_to, point_of, xml}
use Rattle.am_draw.specs.Words.{words, xml_byte}

-- ---- one list behind another

take_none : (n : ℕ) → take {A = ℕ} n [] ≡ []
take_none zero = refl
take_none (suc n) = refl

drop_none : (n : ℕ) → drop {A = ℕ} n [] ≡ []
drop_none zero = refl
drop_none (suc n) = refl

take_two : (a b : List ℕ) (n : ℕ) → take n (a ++ b) ≡ take n a ++ take (n - length a) b
take_two [] b n =
    let e : n ≡ n - 0 = omega arith in
    ap (λ (m : ℕ). take m b) e ∙ ap (λ (t : List ℕ). t ++ take (n - 0) b) (sym (take_none n))
take_two (x ∷ a) b zero =
    let e : 0 ≡ 0 - length (x ∷ a) = omega arith in ap (λ (m : ℕ). take m b) e
take_two (x ∷ a) b (suc n) =
    let e : n - length a ≡ suc n - length (x ∷ a) = omega arith in
    ap (λ (t : List ℕ). x ∷ t) (take_two a b n ∙ ap (λ (m : ℕ). take n a ++ take m b) e)

drop_two : (a b : List ℕ) (n : ℕ) → drop n (a ++ b) ≡ drop n a ++ drop (n - length a) b
drop_two [] b n =
    let e : n ≡ n - 0 = omega arith in
    ap (λ (m : ℕ). drop m b) e ∙ ap (λ (t : List ℕ). t ++ drop (n - 0) b) (sym (drop_none n))
drop_two (x ∷ a) b zero =
    let e : 0 ≡ 0 - length (x ∷ a) = omega arith in ap (λ (m : ℕ). (x ∷ a) ++ drop m b) e
drop_two (x ∷ a) b (suc n) =
    let e : n - length a ≡ suc n - length (x ∷ a) = omega arith in
    drop_two a b n ∙ ap (λ (m : ℕ). drop n a ++ drop m b) e

-- what is left of the second where the first is cut too
rest_same : (from to : ℕ) (a b : List ℕ) → drop (from - length (take to a)) (take (to - length a) b) ≡ drop (from - length a) (take (to - length a) b)
rest_same from to a b =
    ⊎_elim (λ (lt : to < length a). let e : to - length a ≡ 0 = omega (arith, lt) in
    ap (λ (m : ℕ). drop (from - length (take to a)) (take m b)) e
    ∙ drop_none (from - length (take to a))
    ∙ sym (drop_none (from - length a))
    ∙ ap (λ (m : ℕ). drop (from - length a) (take m b)) (sym e))
    (λ (le : length a ≤ to). ap (λ (t : List ℕ). drop (from - length t) (take (to - length a) b)) (take_all to a le))
    (cases_lt to (length a))

pub between_two : (from to : ℕ) (a b : List ℕ) → between from to (a ++ b) ≡ between from to a ++ between (from - length a) (to - length a) b
between_two from to a b =
    ap (drop from) (take_two a b to)
    ∙ drop_two (take to a) (take (to - length a) b) from
    ∙ ap (λ (t : List ℕ). drop from (take to a) ++ t) (rest_same from to a b)

pub xml_two : (from to : ℕ) (a b : List ℕ) → xml (between from to a) ++ xml (between (from - length a) (to - length a) b) ≡ xml (between from to (a ++ b))
xml_two from to a b =
    sym (flat_map-append xml_byte (between from to a) (between (from - length a) (to - length a) b))
    ∙ ap xml (sym (between_two from to a b))

-- ---- a path

-- it is that of the mount below, and the place there
pub path_step : (most : ℕ) (rows : List MountRow) (point : Position) → most ≢ 0 → path_to most rows (Some point) ≡ path_to (most - 1) rows (point_of rows point.mount) ++ text_of point.place
path_step zero rows point some = absurd (some refl)
path_step (suc n) rows point some =
    let same : n ≡ suc n - 1 = omega arith in
    ap (λ (m : ℕ). path_to m rows (point_of rows point.mount) ++ text_of point.place) same

-- where none may be gone over three dots stand for it
pub path_dots : (most : ℕ) (rows : List MountRow) (point : Position) → most ≡ 0 → path_to most rows (Some point) ≡ codes "..."
path_dots most rows point e = ap (λ (m : ℕ). path_to m rows (Some point)) e

-- ---- a path that is cut

to_end : (from : ℕ) (path : List ℕ) → between from (length path) path ≡ drop from path
to_end from path = ap (drop from) (take_all (length path) path (omega arith))

pub words_cut : (half : ℕ) (path : List ℕ) → half < length path - half → xml (between 0 half path) ++ (codes "..." ++ xml (between (length path - half) (length path) path)) ≡ words half path
words_cut half path h =
    ap (λ (t : List ℕ). xml (take half path) ++ (codes "..." ++ xml t)) (to_end (length path - half) path)
    ∙ sym (ap (λ (b : Bool). if b then xml (take half path) ++ (codes "..." ++ xml (drop (length path - half) path)) else xml path) (lt-ltb half (length path - half) h))

pub words_whole : (half : ℕ) (path : List ℕ) → length path - half ≤ half → xml (between 0 (length path) path) ≡ words half path
words_whole half path h =
    ap xml (to_end 0 path)
    ∙ sym (ap (λ (b : Bool). if b then xml (take half path) ++ (codes "..." ++ xml (drop (length path - half) path)) else xml path) (le-ltb half (length path - half) h))
