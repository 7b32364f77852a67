-- What the tests of a call tell of its rows.
use Rattle.std.proofs.Common.{◌≡◌, ℕ, Bool, true, false, cond, not, ◌||◌, ◌&&◌, ◌==◌, List, [], ◌∷◌, Option, Some, None, refl, ap}
use Rattle.std.specs.Prelude.{is_none, find, filter}
use Rattle.std.specs.List.{list_any}
use Rattle.am_names.specs.declared.errno.Errno.{Errno}
use Rattle.am_names.specs.declared.errno.Errno.TheVariants.{EINVAL}
use Rattle.am_names.specs.declared.fail_no.FailNo.TheVariants.{ENOENT}
use Rattle.am_names.specs.{Status, WaitRow}
use Rattle.am_names.specs.declared.trigger.Status.TheVariants.{Fail}
pub use Rattle.am_names.proofs.Basics.{none_where_not_some as is_none_of}
use Rattle.am_wait.specs.{WaitRows, wait_of, open_refusal, join_refusal, released_row, failed_row, collected, still_waits, reopen_refusal, rejoin_refusal}

-- nothing is found where nothing passes
pub none_there : {X : Type 0} (test : X → Bool) (xs : List X) → find test xs ≡ None → list_any test xs ≡ false
none_there test [] h = refl
none_there test (x ∷ xs) h = by_test (test x) h (none_there test xs)
  where
    by_test : (b : Bool) → cond b (Some x) (find test xs) ≡ None → (find test xs ≡ None → list_any test xs ≡ false) → (b || list_any test xs) ≡ false
    by_test true h later = absurd cc
    by_test false h later = later h

first_passed : (b : Bool) (rest : Option Errno) → cond b (Some EINVAL) rest ≡ None → b ≡ false
first_passed true rest h = absurd cc
first_passed false rest h = refl

-- a walker that may open a token waits no longer
pub free_walker : (walker : ℕ) (w : WaitRows) → reopen_refusal walker w ≡ None → still_waits (wait_of w.waits walker) ≡ false
free_walker walker w h = first_passed (still_waits (wait_of w.waits walker)) _ h

-- ---- a walker that has no wait

pub all_kept : {X : Type 0} (test : X → Bool) (xs : List X) → find test xs ≡ None → filter (λ x. not (test x)) xs ≡ xs
all_kept test [] h = refl
all_kept test (x ∷ xs) h = by_test (test x) h (all_kept test xs)
  where
    by_test : (b : Bool) → cond b (Some x) (find test xs) ≡ None → (find test xs ≡ None → filter (λ y. not (test y)) xs ≡ xs) → cond (not b) (x ∷ filter (λ y. not (test y)) xs) (filter (λ y. not (test y)) xs) ≡ x ∷ xs
    by_test true h later = absurd cc
    by_test false h later = ap (λ others. x ∷ others) (later h)

-- nothing is collected
pub idle_collected : (walker : ℕ) (w : WaitRows) → wait_of w.waits walker ≡ None → collected walker w ≡ w
idle_collected walker w h = ap (λ (waits : List WaitRow). record w { waits = waits }) (all_kept (λ row. row.walker == walker) w.waits h)

-- it may begin to wait again where it may begin to wait, and that leaves the same
pub idle_opens : (walker : ℕ) (w : WaitRows) → wait_of w.waits walker ≡ None → reopen_refusal walker w ≡ open_refusal walker w
idle_opens walker w h = rw (all_kept (λ (row : WaitRow). row.walker == walker) w.waits h, h) refl

pub idle_joins : (token walker : ℕ) (w : WaitRows) → wait_of w.waits walker ≡ None → rejoin_refusal token walker w ≡ join_refusal token walker w
idle_joins token walker w h = rw (all_kept (λ (row : WaitRow). row.walker == walker) w.waits h, h) refl

-- ---- a wait stays that of its walker

pub released_walker : (token : ℕ) (status : Status) (row : WaitRow) → (released_row token status row).walker ≡ row.walker
released_walker token status row = elim (row.token == token) as (λ b. (cond b (record row { status = Some status }) row).walker ≡ row.walker) [ true ↦ refl | false ↦ refl ]

pub failed_walker : (fs : ℕ) (row : WaitRow) → (failed_row fs row).walker ≡ row.walker
failed_walker fs row = elim (row.trigger.fs == fs && is_none row.status) as (λ b. (cond b (record row { status = Some (Fail ENOENT) }) row).walker ≡ row.walker) [ true ↦ refl | false ↦ refl ]
