-- Rows in rising order, and one put at its place.
use Rattle.std.proofs.Common.{◌≡◌, ◌≢◌, ℕ, suc, ◌+◌, ◌<◌, ◌≤◌, Bool, true, false, cond, not, ◌==◌, List, [], ◌∷◌, ◌++◌, length, refl, ap, subst, ◌∙◌, inl, inr, get_or, sym, arith}
use Rattle.std.specs.Prelude.{nat_lt, nat_le, insert, filter, map}
use Rattle.std.specs.List.{list_any, position_or_len}
use Rattle.std.proofs.lemmas.Bool.{cases_lt}
use Rattle.std.proofs.lemmas.Bool.Decides.{nat_tests}
use Rattle.std.proofs.lemmas.List.Sums.{position_or_len_is}
use Rattle.am_names.specs.{RiseBy}

-- rows that all stand above a number
pub none_below : {X : Type 0} (key : X → ℕ) (k low : ℕ) (rows : List X) → RiseBy key low rows → k ≤ low → filter (λ row. nat_lt (key row) k) rows ≡ []
none_below key k low [] h e = refl
none_below key k low (row ∷ rows) h e =
    let no_less : nat_lt (key row) k ≡ false = grind (arith, nat_tests, h.0) in
    rw no_less (none_below key k (key row + 1) rows h.1 (omega (arith, h.0)))

all_above : {X : Type 0} (key : X → ℕ) (k low : ℕ) (rows : List X) → RiseBy key low rows → k < low → filter (λ row. nat_lt k (key row)) rows ≡ rows
all_above key k low [] h e = refl
all_above key k low (row ∷ rows) h e =
    let more : nat_lt k (key row) ≡ true = grind (arith, nat_tests, h.0) in
    rw more (ap (λ others. row ∷ others) (all_above key k (key row + 1) rows h.1 (omega (arith, h.0))))

insert_further : {X : Type 0} (row x : X) (rows : List X) (p : ℕ) → insert (row ∷ rows) (1 + p) x ≡ row ∷ insert rows p x
insert_further row x rows p =
    let e : 1 + p ≡ suc p = omega arith in
    rw e refl

less_new : {X : Type 0} (key : X → ℕ) (k : ℕ) (x row : X) (rows : List X) (p : ℕ) (lows highs : List X) → key row < k → insert rows p x ≡ lows ++ x ∷ highs →
    insert (row ∷ rows) (cond (not (nat_le k (key row))) (1 + p) 0) x ≡ cond (nat_lt (key row) k) (row ∷ lows) lows ++ x ∷ cond (nat_lt k (key row)) (row ∷ highs) highs
less_new key k x row rows p lows highs less e =
    let no_le : nat_le k (key row) ≡ false = grind (arith, nat_tests) in
    let is_lt : nat_lt (key row) k ≡ true = grind (arith, nat_tests) in
    let no_lt : nat_lt k (key row) ≡ false = grind (arith, nat_tests) in
    rw (no_le, is_lt, no_lt) (insert_further row x rows p ∙ ap (λ others. row ∷ others) e)

more_new : {X : Type 0} (key : X → ℕ) (k : ℕ) (x row : X) (rows : List X) (p : ℕ) (lows highs : List X) → k < key row → lows ≡ [] → highs ≡ rows →
    insert (row ∷ rows) (cond (not (nat_le k (key row))) (1 + p) 0) x ≡ cond (nat_lt (key row) k) (row ∷ lows) lows ++ x ∷ cond (nat_lt k (key row)) (row ∷ highs) highs
more_new key k x row rows p lows highs more l e =
    let is_le : nat_le k (key row) ≡ true = grind (arith, nat_tests) in
    let no_lt : nat_lt (key row) k ≡ false = grind (arith, nat_tests) in
    let is_lt : nat_lt k (key row) ≡ true = grind (arith, nat_tests) in
    rw (is_le, no_lt, is_lt, l, e) refl

-- a row whose number is not there is put before the first greater one
pub put_new : {X : Type 0} (key : X → ℕ) (k low : ℕ) (x : X) (rows : List X) → RiseBy key low rows → list_any (λ row. key row == k) rows ≡ false →
    insert rows (position_or_len (λ row. nat_le k (key row)) rows) x ≡ filter (λ row. nat_lt (key row) k) rows ++ x ∷ filter (λ row. nat_lt k (key row)) rows
put_new key k low x [] h none = refl
put_new key k low x (row ∷ rows) h none =
    let differs : key row ≢ k = grind (arith, nat_tests, none) in
    let others : list_any (λ other. key other == k) rows ≡ false = grind (arith, nat_tests, none) in
    let next = put_new key k (key row + 1) x rows h.1 others in
    elim (cases_lt (key row) k) [
      | inl less ↦ less_new key k x row rows _ _ _ less next
      | inr more ↦
          more_new key k x row rows _ _ _ (omega (arith, differs, more)) (none_below key k (key row + 1) rows h.1 (omega (arith, more))) (all_above key k (key row + 1) rows h.1 (omega (arith, more)))
    ]

-- where no row passes, the place is the end
pub none_passes : {X : Type 0} (test : X → Bool) (rows : List X) → ((k : ℕ) (d : X) → k < length rows → test (get_or rows k d) ≡ false) → length rows ≡ position_or_len test rows
none_passes test [] h = refl
none_passes test (row ∷ rows) h =
    sym (position_or_len_is test (row ∷ rows) (length (row ∷ rows)) row (omega arith) (λ k less. h k row less) (λ less. absurd (omega arith)))

after_one : (b : Bool) (p n : ℕ) → p ≤ n → cond (not b) (1 + p) 0 ≤ suc n
after_one true p n h = omega arith
after_one false p n h = omega arith

pub position_fits : {X : Type 0} (test : X → Bool) (rows : List X) → position_or_len test rows ≤ length rows
position_fits test [] = omega arith
position_fits test (row ∷ rows) = after_one (test row) (position_or_len test rows) (length rows) (position_fits test rows)

-- ---- rows that still rise

pub rises_higher : {X : Type 0} (key : X → ℕ) (low lower : ℕ) (rows : List X) → RiseBy key low rows → lower ≤ low → RiseBy key lower rows
rises_higher key low lower [] h e = tt
rises_higher key low lower (row ∷ rows) h e = (omega (arith, h.0, e), h.1)

pub rises_filter : {X : Type 0} (key : X → ℕ) (test : X → Bool) (low : ℕ) (rows : List X) → RiseBy key low rows → RiseBy key low (filter test rows)
rises_filter key test low [] h = tt
rises_filter key test low (row ∷ rows) h = kept (test row) (rises_filter key test (key row + 1) rows h.1)
  where
    kept : (b : Bool) → RiseBy key (key row + 1) (filter test rows) → RiseBy key low (cond b (row ∷ filter test rows) (filter test rows))
    kept true g = (h.0, g)
    kept false g = rises_higher key (key row + 1) low (filter test rows) g (omega (arith, h.0))

kept_above : {X : Type 0} (key : X → ℕ) (k : ℕ) (row : X) (rows : List X) (b : Bool) → nat_lt k (key row) ≡ b → RiseBy key (key row + 1) (filter (λ other. nat_lt k (key other)) rows) → RiseBy key (k + 1) (filter (λ other. nat_lt k (key other)) rows) →
    RiseBy key (k + 1) (cond b (row ∷ filter (λ other. nat_lt k (key other)) rows) (filter (λ other. nat_lt k (key other)) rows))
kept_above key k row rows true e here later = (grind (arith, nat_tests, e), here)
kept_above key k row rows false e here later = later

rises_above : {X : Type 0} (key : X → ℕ) (k low : ℕ) (rows : List X) → RiseBy key low rows → RiseBy key (k + 1) (filter (λ row. nat_lt k (key row)) rows)
rises_above key k low [] h = tt
rises_above key k low (row ∷ rows) h = kept_above key k row rows (nat_lt k (key row)) refl (rises_filter key (λ other. nat_lt k (key other)) (key row + 1) rows h.1) (rises_above key k (key row + 1) rows h.1)

-- a row put at its place
pub rises_put : {X : Type 0} (key : X → ℕ) (low : ℕ) (x : X) (rows : List X) → RiseBy key low rows → low ≤ key x → RiseBy key low (filter (λ row. nat_lt (key row) (key x)) rows ++ x ∷ filter (λ row. nat_lt (key x) (key row)) rows)
rises_put key low x [] h e = (e, tt)
rises_put key low x (row ∷ rows) h e =
    elim (cases_lt (key row) (key x)) [
      | inl less ↦
          let is_lt : nat_lt (key row) (key x) ≡ true = grind (arith, nat_tests) in
          let no_lt : nat_lt (key x) (key row) ≡ false = grind (arith, nat_tests) in
          rw (is_lt, no_lt) (h.0, rises_put key (key row + 1) x rows h.1 (omega arith))
      | inr more ↦
          let no_lt : nat_lt (key row) (key x) ≡ false = grind (arith, nat_tests) in
          let above = rises_above key (key x) low (row ∷ rows) h in
          rw (no_lt, none_below key (key x) (key row + 1) rows h.1 (omega (arith, more))) (e, above)
    ]

pub rises_map : {X : Type 0} (key : X → ℕ) (f : X → X) (low : ℕ) (rows : List X) → ((x : X) → key (f x) ≡ key x) → RiseBy key low rows → RiseBy key low (map f rows)
rises_map key f low [] same h = tt
rises_map key f low (row ∷ rows) same h =
    (subst (λ (n : ℕ). low ≤ n) (sym (same row)) h.0, subst (λ (n : ℕ). RiseBy key (n + 1) (map f rows)) (sym (same row)) (rises_map key f (key row + 1) rows same h.1))
