-- Which attachment a file system has, and what it has where attachments end and begin.
use Rattle.std.proofs.Common.{◌≡◌, ◌⊎◌, ℕ, ◌+◌, ◌≤◌, ◌<◌, Bool, true, false, ◌==◌, List, [], ◌∷◌, ◌++◌, map, Option, Some, None, refl, sym, ap, subst, ◌∙◌, inl, inr, arith}
use Rattle.std.specs.Prelude.{find, if◌then◌else◌}
use Rattle.std.specs.Option.{option_map}
use Rattle.std.specs.List.{All}
use Rattle.std.proofs.lemmas.Bool.Decides.{nat_tests}
use Rattle.std.proofs.lemmas.List.Elements.{All-nil, All-cons, All-head, All-tail}
use Rattle.am_names.specs.{Position}
use Rattle.am_names.proofs.Basics.{equal_to_itself, equal_by_test, found_passes}
use Rattle.am_trigger.specs.{Autofs, TriggerRows, autofs_of, catatonic_row, with_catatonic}
use Rattle.am_wait.proofs.FindLemmas.{or_none, find_append, find_map}
use Rattle.am_kernel.specs.{Attached, KernelState, is_live_row, is_live, latest_attach, attach_of, made_catatonic, with_pipe, attached_at, timeout_row, with_timeout}
use Rattle.am_kernel.specs.Attachments as piped
use Rattle.am_kernel.specs.DaemonMounts as mounts
use Rattle.am_machine.specs.{RiseTo}

-- ---- numbers that rise

pub rise_all : (last low : ℕ) (rows : List Attached) → RiseTo last low rows → All (λ (row : Attached). row.fs ≤ last) rows
rise_all last low [] h = All-nil (λ (row : Attached). row.fs ≤ last)
rise_all last low (row ∷ rows) h = All-cons (λ (row : Attached). row.fs ≤ last) row rows h.1 (rise_all last (row.fs + 1) rows h.2)

pub rise_push : (last low : ℕ) (rows : List Attached) (row : Attached) → low ≤ last + 1 → row.fs ≡ last + 1 → RiseTo last low rows → RiseTo (last + 1) low (rows ++ row ∷ [])
rise_push last low [] row most new h = (omega (arith, most, new), omega (arith, new), tt)
rise_push last low (x ∷ rows) row most new h = (h.0, omega (arith, h.1), rise_push last (x.fs + 1) rows row (omega (arith, h.1)) new h.2)

pub rise_map : (last low : ℕ) (f : Attached → Attached) (rows : List Attached) → ((row : Attached) → (f row).fs ≡ row.fs) → RiseTo last low rows → RiseTo last low (map f rows)
rise_map last low f [] same h = tt
rise_map last low f (row ∷ rows) same h =
    let e = same row in
    (omega (arith, e, h.0), omega (arith, e, h.1), subst (λ (n : ℕ). RiseTo last (n + 1) (map f rows)) (sym e) (rise_map last (row.fs + 1) f rows same h.2))

pub rise_more : (last more low : ℕ) (rows : List Attached) → last ≤ more → RiseTo last low rows → RiseTo more low rows
rise_more last more low [] le h = tt
rise_more last more low (row ∷ rows) le h = (h.0, omega (arith, le, h.1), rise_more last more (row.fs + 1) rows le h.2)

pub none_above : {X : Type 0} (key : X → ℕ) (last k : ℕ) (rows : List X) → All (λ x. key x ≤ last) rows → last < k → find (λ x. key x == k) rows ≡ None
none_above key last k [] h above = refl
none_above {X} key last k (x ∷ rows) h above =
    let most : key x ≤ last = All-head (λ (y : X). key y ≤ last) x rows h in
    let other : (key x == k) ≡ false = grind (arith, nat_tests, most, above) in
    rw other (none_above key last k rows (All-tail (λ (y : X). key y ≤ last) x rows h) above)

-- ---- the autofs of a number

autofs_fs : (t : TriggerRows) (fs : ℕ) (row : Autofs) → autofs_of t fs ≡ Some row → row.fs ≡ fs
autofs_fs t fs row e = equal_by_test row.fs fs (found_passes (λ (r : Autofs). r.fs == fs) t.autofs row e)

catatonic_by_cases : (b c : Bool) (row : Autofs) (other : ℕ) → ((if c then record row { catatonic = b } else row).fs == other) ≡ (row.fs == other)
catatonic_by_cases b true row other = refl
catatonic_by_cases b false row other = refl

autofs_changed : (fs other : ℕ) (b : Bool) (t : TriggerRows) → autofs_of (with_catatonic fs b t) other ≡ option_map (catatonic_row fs b) (autofs_of t other)
autofs_changed fs other b t = find_map (λ (r : Autofs). r.fs == other) (catatonic_row fs b) (λ r. catatonic_by_cases b (r.fs == fs) r other) t.autofs

other_row : (fs other : ℕ) (b : Bool) (t : TriggerRows) (o : Option Autofs) → autofs_of t other ≡ o → (other == fs) ≡ false → is_live_row (option_map (catatonic_row fs b) o) ≡ is_live_row o
other_row fs other b t None e d = refl
other_row fs other b t (Some row) e d =
    let differs : (row.fs == fs) ≡ false = ap (λ (n : ℕ). n == fs) (autofs_fs t other row e) ∙ d in
    rw differs refl

live_other : (fs other : ℕ) (b : Bool) (t : TriggerRows) → (other == fs) ≡ false → is_live_row (autofs_of (with_catatonic fs b t) other) ≡ is_live_row (autofs_of t other)
live_other fs other b t d = ap is_live_row (autofs_changed fs other b t) ∙ other_row fs other b t (autofs_of t other) refl d

closed_row : (fs : ℕ) (t : TriggerRows) (o : Option Autofs) → autofs_of t fs ≡ o → is_live_row (option_map (catatonic_row fs true) o) ≡ false
closed_row fs t None e = refl
closed_row fs t (Some row) e =
    let same : (row.fs == fs) ≡ true = ap (λ (n : ℕ). n == fs) (autofs_fs t fs row e) ∙ equal_to_itself fs in
    rw same refl

-- ---- a file system is closed

abbrev attach_by : Bool → Option ℕ → Option ℕ
attach_by live latest = if live then latest else None

pub attach_closed : (k : KernelState) (fs : ℕ) → attach_of (made_catatonic fs k) fs ≡ None
attach_closed k fs =
    ap (λ (b : Bool). attach_by b (latest_attach k.attached fs)) (ap is_live_row (autofs_changed fs fs true k.triggers) ∙ closed_row fs k.triggers (autofs_of k.triggers fs) refl)

pub attach_other : (k : KernelState) (fs other : ℕ) → (other == fs) ≡ false → attach_of (made_catatonic fs k) other ≡ attach_of k other
attach_other k fs other d = ap (λ (b : Bool). attach_by b (latest_attach k.attached other)) (live_other fs other true k.triggers d)

-- ---- an attachment is new

-- the file system has the attachment that it had, or had none and has a new one
abbrev pub Grows : KernelState → KernelState → ℕ → Type 0
Grows k made fs = (attach_of made fs ≡ attach_of k fs) ⊎ ((attach_of k fs ≡ None) × (attach_of made fs ≡ Some (k.last_attach + 1)))

attached_same : (f : Attached → Attached) (fs : ℕ) → ((row : Attached) → (f row).fs ≡ row.fs) → (rows : List Attached) → find (λ (r : Attached). r.fs == fs) (map f rows) ≡ option_map f (find (λ (r : Attached). r.fs == fs) rows)
attached_same f fs same rows = find_map (λ (r : Attached). r.fs == fs) f (λ r. ap (λ (n : ℕ). n == fs) (same r)) rows

piped_by_cases : (b : Bool) (n : ℕ) (row : Attached) → (if b then record row { attach = n } else row).fs ≡ row.fs
piped_by_cases true n row = refl
piped_by_cases false n row = refl

pub piped_fs : (fs n : ℕ) (row : Attached) → (piped.reattached_row fs n row).fs ≡ row.fs
piped_fs fs n row = piped_by_cases (row.fs == fs) n row

other_attach : (fs other n : ℕ) (rows : List Attached) (o : Option Attached) → find (λ (r : Attached). r.fs == other) rows ≡ o → (other == fs) ≡ false → option_map (λ (r : Attached). r.attach) (option_map (piped.reattached_row fs n) o) ≡ option_map (λ (r : Attached). r.attach) o
other_attach fs other n rows None e d = refl
other_attach fs other n rows (Some row) e d =
    let its : row.fs ≡ other = equal_by_test row.fs other (found_passes (λ (r : Attached). r.fs == other) rows row e) in
    let differs : (row.fs == fs) ≡ false = ap (λ (m : ℕ). m == fs) its ∙ d in
    rw differs refl

own_attach : (live : Bool) (fs n : ℕ) (rows : List Attached) (o : Option Attached) → find (λ (r : Attached). r.fs == fs) rows ≡ o →
    (attach_by live (option_map (λ (r : Attached). r.attach) (option_map (piped.reattached_row fs n) o)) ≡ None) ⊎ (attach_by live (option_map (λ (r : Attached). r.attach) (option_map (piped.reattached_row fs n) o)) ≡ Some n)
own_attach false fs n rows o e = inl refl
own_attach true fs n rows None e = inl refl
own_attach true fs n rows (Some row) e =
    let same : (row.fs == fs) ≡ true = found_passes (λ (r : Attached). r.fs == fs) rows row e in
    inr (rw same refl)

grown : (k made : KernelState) (fs : ℕ) → attach_of k fs ≡ None → (attach_of made fs ≡ None) ⊎ (attach_of made fs ≡ Some (k.last_attach + 1)) → Grows k made fs
grown k made fs none (inl e) = inl (e ∙ sym none)
grown k made fs none (inr e) = inr (none, e)

piped_grows : (k : KernelState) (fs other : ℕ) (b : Bool) → (other == fs) ≡ b → is_live k fs ≡ false → Grows k (with_pipe fs k) other
piped_grows k fs other false e dead =
    let n = k.last_attach + 1 in
    let its = attached_same (piped.reattached_row fs n) other (piped_fs fs n) k.attached in
    inl (ap (λ (b : Bool). attach_by b (latest_attach (with_pipe fs k).attached other)) (live_other fs other false k.triggers e)
    ∙ ap (attach_by (is_live k other)) (ap (option_map (λ (r : Attached). r.attach)) its ∙ other_attach fs other n k.attached (find (λ (r : Attached). r.fs == other) k.attached) refl e))
piped_grows k fs other true e dead =
    let n = k.last_attach + 1 in
    let its = attached_same (piped.reattached_row fs n) fs (piped_fs fs n) k.attached in
    let here : Grows k (with_pipe fs k) fs =
    grown k (with_pipe fs k) fs (ap (λ (b : Bool). attach_by b (latest_attach k.attached fs)) dead)
    (subst (λ (o : Option Attached). (attach_by (is_live (with_pipe fs k) fs) (option_map (λ (r : Attached). r.attach) o) ≡ None) ⊎ (attach_by (is_live (with_pipe fs k) fs) (option_map (λ (r : Attached). r.attach) o) ≡ Some n)) (sym its)
    (own_attach (is_live (with_pipe fs k) fs) fs n k.attached (find (λ (r : Attached). r.fs == fs) k.attached) refl)) in
    subst (Grows k (with_pipe fs k)) (sym (equal_by_test other fs e)) here

pub pipe_grows : (k : KernelState) (fs other : ℕ) → is_live k fs ≡ false → Grows k (with_pipe fs k) other
pipe_grows k fs other dead = piped_grows k fs other (other == fs) refl dead

-- ---- a file system is new

attached_by_cases : (direct : Bool) (timeout : ℕ) (k : KernelState) (at : Position) (other : ℕ) (b : Bool) → (k.last_fs + 1 == other) ≡ b → All (λ (row : Autofs). row.fs ≤ k.last_fs) k.triggers.autofs → RiseTo k.last_fs 0 k.attached → Grows k (attached_at direct timeout k at) other
attached_by_cases direct timeout k at other false e autofs rise =
    let made = attached_at direct timeout k at in
    let row : autofs_of made.triggers other ≡ autofs_of k.triggers other = find_append (λ (r : Autofs). r.fs == other) k.triggers.autofs _ ∙ rw e (or_none (autofs_of k.triggers other)) in
    let last : find (λ (r : Attached). r.fs == other) made.attached ≡ find (λ (r : Attached). r.fs == other) k.attached = find_append (λ (r : Attached). r.fs == other) k.attached _ ∙ rw e (or_none (find (λ (r : Attached). r.fs == other) k.attached)) in
    inl (ap (λ (o : Option Autofs). attach_by (is_live_row o) (latest_attach made.attached other)) row ∙ ap (λ (o : Option Attached). attach_by (is_live k other) (option_map (λ (r : Attached). r.attach) o)) last)
attached_by_cases direct timeout k at other true e autofs rise =
    let made = attached_at direct timeout k at in
    let is : k.last_fs + 1 ≡ other = equal_by_test (k.last_fs + 1) other e in
    let no_autofs : autofs_of k.triggers other ≡ None = none_above (λ (r : Autofs). r.fs) k.last_fs other k.triggers.autofs autofs (omega (arith, is)) in
    let no_attach : find (λ (r : Attached). r.fs == other) k.attached ≡ None = none_above (λ (r : Attached). r.fs) k.last_fs other k.attached (rise_all k.last_fs 0 k.attached rise) (omega (arith, is)) in
    let row : autofs_of made.triggers other ≡ Some (record { fs = k.last_fs + 1; direct = direct; location = k.table.last_mount + 1; catatonic = false }) = find_append (λ (r : Autofs). r.fs == other) k.triggers.autofs _ ∙ rw (no_autofs, e) refl in
    let last : find (λ (r : Attached). r.fs == other) made.attached ≡ Some (mounts.attached_row (k.last_fs + 1) (k.last_attach + 1) timeout) = find_append (λ (r : Attached). r.fs == other) k.attached _ ∙ rw (no_attach, e) refl in
    inr (ap (λ (o : Option Autofs). attach_by (is_live_row o) (latest_attach k.attached other)) no_autofs, ap (λ (o : Option Autofs). attach_by (is_live_row o) (latest_attach made.attached other)) row ∙ ap (λ (o : Option Attached). option_map (λ (r : Attached). r.attach) o) last)

pub attached_grows : (direct : Bool) (timeout : ℕ) (k : KernelState) (at : Position) (other : ℕ) → All (λ (row : Autofs). row.fs ≤ k.last_fs) k.triggers.autofs → RiseTo k.last_fs 0 k.attached → Grows k (attached_at direct timeout k at) other
attached_grows direct timeout k at other autofs rise = attached_by_cases direct timeout k at other (k.last_fs + 1 == other) refl autofs rise

-- ---- a timeout

timeout_by_cases : (b : Bool) (n : ℕ) (row : Attached) → ((if b then record row { timeout = n } else row).fs ≡ row.fs) × ((if b then record row { timeout = n } else row).attach ≡ row.attach)
timeout_by_cases true n row = (refl, refl)
timeout_by_cases false n row = (refl, refl)

pub timeout_keeps : (fs n : ℕ) (row : Attached) → ((timeout_row fs n row).fs ≡ row.fs) × ((timeout_row fs n row).attach ≡ row.attach)
timeout_keeps fs n row = timeout_by_cases (row.fs == fs) n row

timeout_attach : (fs n : ℕ) (o : Option Attached) → option_map (λ (r : Attached). r.attach) (option_map (timeout_row fs n) o) ≡ option_map (λ (r : Attached). r.attach) o
timeout_attach fs n None = refl
timeout_attach fs n (Some row) = ap (λ (m : ℕ). Some m) (timeout_keeps fs n row).1

pub timeout_grows : (k : KernelState) (fs n other : ℕ) → Grows k (with_timeout fs n k) other
timeout_grows k fs n other =
    inl (ap (attach_by (is_live k other)) (ap (option_map (λ (r : Attached). r.attach)) (attached_same (timeout_row fs n) other (λ r. (timeout_keeps fs n r).0) k.attached) ∙ timeout_attach fs n (find (λ (r : Attached). r.fs == other) k.attached)))
