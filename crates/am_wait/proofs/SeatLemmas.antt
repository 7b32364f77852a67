-- Seats, and the waits to which they lead.
use Rattle.std.proofs.Common.{◌≡◌, ℕ, Bool, true, false, cond, ◌==◌, ◌||◌, List, [], ◌∷◌, ◌++◌, Option, Some, None, refl, ap, subst, ◌∙◌, arith}
use Rattle.std.specs.Option.{option_map}
use Rattle.std.proofs.lemmas.Bool.Decides.{nat_tests, Decides-eqb}
use Rattle.slab.specs.Slab.{Slab, get, Updates}
use Rattle.am_names.specs.{WaitRow, Status}
use Rattle.am_names.proofs.Basics.{differ_the_other_way, none_where_mapped_none}
use Rattle.am_wait.specs.{Seat, seat_of, key_of, with_status, among_keys}

pub no_key : (seats : List Seat) (walker : ℕ) → key_of seats walker ≡ None → seat_of seats walker ≡ None
no_key seats walker h = none_where_mapped_none (λ (seat : Seat). seat.key) (seat_of seats walker) h

pub among_last : (keys : List ℕ) (at k : ℕ) → among_keys (keys ++ at ∷ []) k ≡ (among_keys keys k || (at == k))
among_last [] at k = elim (at == k) as (λ b. (b || false) ≡ (false || b)) [ true ↦ refl | false ↦ refl ]
among_last (w ∷ keys) at k =
    ap (λ (b : Bool). (w == k) || b) (among_last keys at k) ∙ elim (w == k) as (λ b. (b || (among_keys keys k || (at == k))) ≡ ((b || among_keys keys k) || (at == k))) [ true ↦ refl | false ↦ refl ]

-- the status at each of these keys, and what was there elsewhere
abbrev pub SetsAll : Slab WaitRow → Slab WaitRow → Status → List ℕ → Type 0
SetsAll old new status keys = (key : ℕ) → get new key ≡ cond (among_keys keys key) (option_map (with_status status) (get old key)) (get old key)

status_twice : (status : Status) (o : Option WaitRow) → option_map (with_status status) (option_map (with_status status) o) ≡ option_map (with_status status) o
status_twice status None = refl
status_twice status (Some row) = refl

status_one_more : (status : Status) (was now next : Option WaitRow) (b e : Bool) → now ≡ cond b (option_map (with_status status) was) was → (e ≡ true → next ≡ option_map (with_status status) now) → (e ≡ false → next ≡ now) →
    next ≡ cond (b || e) (option_map (with_status status) was) was
status_one_more status was now next true true h this other = this refl ∙ ap (option_map (with_status status)) h ∙ status_twice status was
status_one_more status was now next true false h this other = other refl ∙ h
status_one_more status was now next false true h this other = this refl ∙ ap (option_map (with_status status)) h
status_one_more status was now next false false h this other = other refl ∙ h

pub statuses_more : (old mid new : Slab WaitRow) (status : Status) (keys : List ℕ) (at : ℕ) → SetsAll old mid status keys → get new at ≡ option_map (with_status status) (get mid at) → ((other : ℕ) → (other == at) ≡ false → get new other ≡ get mid other) →
    SetsAll old new status (keys ++ at ∷ [])
statuses_more old mid new status keys at h this others k =
    rw (among_last keys at k) (status_one_more status (get old k) (get mid k) (get new k) (among_keys keys k) (at == k) (h k)
    (λ e. let same : at ≡ k = (Decides-eqb at k).0 e in subst (λ (i : ℕ). get new i ≡ option_map (with_status status) (get mid i)) same this)
    (λ e. others k (differ_the_other_way at k e)))

freed_or_other : (key k : ℕ) (was next : Option WaitRow) (b : Bool) → (key == k) ≡ b → (key ≡ k → next ≡ None) → ((k ≡ key → ⊥) → next ≡ was) → next ≡ cond b None was
freed_or_other key k was next true e this other = this ((Decides-eqb key k).0 e)
freed_or_other key k was next false e this other = other (λ same. grind (arith, nat_tests, e, same))

pub freed_at : (old new : Slab WaitRow) (key : ℕ) → Updates old new key None → (k : ℕ) → get new k ≡ cond (key == k) None (get old k)
freed_at old new key h k =
    freed_or_other key k (get old k) (get new k) (key == k) refl (λ same. subst (λ (i : ℕ). get new i ≡ None) same h.changed) (λ differs. h.others k differs)
