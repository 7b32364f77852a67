-- What is printed of an observation is read back.
use Rattle.std.proofs.Common.{◌≡◌, ℕ, zero, suc, ◌+◌, ◌^◌, ◌<◌, ◌≤◌, Bool, true, false, cond, ◌&&◌, not, List, [], ◌∷◌, ◌++◌, length, Option, Some, None, Result, Ok, Err, refl, sym, subst, arith}
use Rattle.std.specs.Prelude.{codes, decimal, nat_le, nat_lt, ◌==◌}
use Rattle.std.specs.List.{list_all}
use Rattle.std.specs.Result.{result_ok}
use Rattle.std.proofs.lemmas.Bool.Decides.{nat_tests}
use Rattle.std.proofs.lemmas.Fmt.{decimal_digit}
use Rattle.std.proofs.lemmas.List.{length-append, append_assoc}
use Rattle.am_names.specs.{Status, is_name, is_dots, is_name_byte, name_read}
use Rattle.am_names.specs.declared.errno.Errno.TheVariants.{ENAMETOOLONG as TOO_LONG, EINVAL as INVALID}
use Rattle.am_names.specs.declared.fail_no.FailNo.TheVariants.{ENOENT, EPERM, EBUSY, EEXIST, EINVAL, EAGAIN, ELOOP, ENAMETOOLONG, ENOSPC}
use Rattle.am_names.specs.declared.trigger.Status.TheVariants.{Ready, Fail}
use Rattle.am_names.specs.declared.trigger.Trigger.{Trigger}
use Rattle.am_wire.specs.{Packet}
use Rattle.am_wire.specs.declared.packet_type.PacketType.{PacketType}
use Rattle.am_wire.specs.declared.packet_type.PacketType.TheVariants.{MissingIndirect, ExpireIndirect, MissingDirect, ExpireDirect}
use Rattle.am_state.specs.{Obs, Record}
use Rattle.am_state.specs.declared.daemon_row.Record.TheVariants.{Mounting, Mounted, Unmounting}
use Rattle.am_state.specs.declared.obs.Obs.TheVariants as seen
use Rattle.am_script.specs.{entry_text, mounts_text}
use Rattle.am_views.specs.{status_part, trigger_part, obs_text}
use Rattle.am_views.specs.ObsText.{key_part, type_part, packet_part}
use Rattle.am_traces.specs.declared.fault.Expected.{Expected}
use Rattle.am_traces.specs.declared.fault.Expected.TheVariants as expected
use Rattle.am_traces.specs.declared.fault.Miss.{Miss}
use Rattle.am_traces.specs.Parts.{◌>>=◌, word_cut, end_cut, numeral_cut, number_cut, status_end, name_end, key_end, trigger_end, type_cut, packet_name_end, packet_end, mounting_cut, mounted_cut, unmounting_cut, entry_cut}
use Rattle.am_traces.specs.Observations.{word_read, packet_parts, queued_read, delivered_read, waits_read, answered_read, catatonic_read, released_read, passed_read, entered_read, left_read, mounts_in, mounted_read, unmounted_read, recorded_read, reattached_read, died_read, read_behind, text_read, line_read}
use Rattle.am_traces.specs.Says.{IsKey, IsTrigger, IsPacketOf, IsEntry, AreMounts, IsObs, Says}
use Rattle.am_traces.proofs.NumberLemmas.{ends_digits}
use Rattle.am_traces.proofs.PartLemmas.{ok, word_back, numeral_back, number_goes, number_ends}
use Rattle.am_traces.proofs.SoundLemmas.{small32, small64, packet_joins}

-- ---- one part after another

goes : {A B : Type 0} (r : Result A Miss) (a : A) (next : A → Result B Miss) (b : B) → r ≡ Ok a → next a ≡ Ok b → (r >>= next) ≡ Ok b
goes {A} {B} r a next b e f = subst (λ (x : Result A Miss). (x >>= next) ≡ Ok b) (sym e) f

number32 : {B : Type 0} (word : List ℕ) (part : Expected) (n : ℕ) (rest : List ℕ) (next : ℕ × List ℕ → Result B Miss) (b : B) → n < 2 ^ 32 → ends_digits rest ≡ true → next (n, rest) ≡ Ok b → (number_cut word (2 ^ 32) part (word ++ (decimal n ++ rest)) >>= next) ≡ Ok b
number32 word part n rest next b h e f =
    goes (number_cut word (2 ^ 32) part (word ++ (decimal n ++ rest))) (n, rest) next b (number_goes word (2 ^ 32) part n rest h small32 e) f

number64 : {B : Type 0} (word : List ℕ) (part : Expected) (n : ℕ) (rest : List ℕ) (next : ℕ × List ℕ → Result B Miss) (b : B) → n < 2 ^ 64 → ends_digits rest ≡ true → next (n, rest) ≡ Ok b → (number_cut word (2 ^ 64) part (word ++ (decimal n ++ rest)) >>= next) ≡ Ok b
number64 word part n rest next b h e f =
    goes (number_cut word (2 ^ 64) part (word ++ (decimal n ++ rest))) (n, rest) next b (number_goes word (2 ^ 64) part n rest h small64 e) f

last32 : {B : Type 0} (word : List ℕ) (part : Expected) (n : ℕ) (next : ℕ × List ℕ → Result B Miss) (b : B) → n < 2 ^ 32 → next (n, []) ≡ Ok b → (number_cut word (2 ^ 32) part (word ++ decimal n) >>= next) ≡ Ok b
last32 word part n next b h f =
    goes (number_cut word (2 ^ 32) part (word ++ decimal n)) (n, []) next b (number_ends word (2 ^ 32) part n h small32) f

last64 : {B : Type 0} (word : List ℕ) (part : Expected) (n : ℕ) (next : ℕ × List ℕ → Result B Miss) (b : B) → n < 2 ^ 64 → next (n, []) ≡ Ok b → (number_cut word (2 ^ 64) part (word ++ decimal n) >>= next) ≡ Ok b
last64 word part n next b h f =
    goes (number_cut word (2 ^ 64) part (word ++ decimal n)) (n, []) next b (number_ends word (2 ^ 64) part n h small64) f

-- ---- the parts

fail_back : (n : ℕ) (status : Status) → n < 10 → status_end (codes " fail " ++ (48 + n) ∷ []) ≡ Ok status → status_end (codes " fail " ++ decimal n) ≡ Ok status
fail_back n status h e = subst (λ (t : List ℕ). status_end (codes " fail " ++ t) ≡ Ok status) (sym (decimal_digit n h)) e

status_back : (status : Status) → status_end (status_part status) ≡ Ok status
unfolding status_end
status_back Ready = refl
status_back (Fail ENOENT) = refl
status_back (Fail EPERM) = fail_back 2 (Fail EPERM) (omega arith) refl
status_back (Fail EBUSY) = fail_back 3 (Fail EBUSY) (omega arith) refl
status_back (Fail EEXIST) = fail_back 4 (Fail EEXIST) (omega arith) refl
status_back (Fail EINVAL) = fail_back 5 (Fail EINVAL) (omega arith) refl
status_back (Fail EAGAIN) = fail_back 6 (Fail EAGAIN) (omega arith) refl
status_back (Fail ELOOP) = fail_back 7 (Fail ELOOP) (omega arith) refl
status_back (Fail ENAMETOOLONG) = fail_back 8 (Fail ENAMETOOLONG) (omega arith) refl
status_back (Fail ENOSPC) = fail_back 9 (Fail ENOSPC) (omega arith) refl

status_no_digit : (status : Status) → ends_digits (status_part status) ≡ true
status_no_digit Ready = refl
status_no_digit (Fail ENOENT) = refl
status_no_digit (Fail EPERM) = refl
status_no_digit (Fail EBUSY) = refl
status_no_digit (Fail EEXIST) = refl
status_no_digit (Fail EINVAL) = refl
status_no_digit (Fail EAGAIN) = refl
status_no_digit (Fail ELOOP) = refl
status_no_digit (Fail ENAMETOOLONG) = refl
status_no_digit (Fail ENOSPC) = refl

too_long : (a b c : Bool) → (a && not true && b && c) ≡ true → ⊥
too_long true b c h = absurd cc
too_long false b c h = absurd cc

name_back : (name : List ℕ) → is_name name ≡ true → result_ok (name_read name) ≡ Some name
name_back name h = go (nat_lt 255 (length name)) refl
  where
    go : (b : Bool) → nat_lt 255 (length name) ≡ b → result_ok (cond b (Err TOO_LONG) (cond (is_name name) (Ok name) (Err INVALID))) ≡ Some name
    go true same =
        absurd (too_long (not (length name == 0)) (not (is_dots name)) (list_all is_name_byte name)
        (subst (λ (b : Bool). (not (length name == 0) && not b && not (is_dots name) && list_all is_name_byte name) ≡ true) same h))
    go false same = subst (λ (b : Bool). result_ok (cond b (Ok name) (Err INVALID)) ≡ Some name) (sym h) refl

key_back : (name : Option (List ℕ)) → IsKey name → key_end (key_part name) ≡ Ok name
unfolding key_end name_end word_cut
key_back None h = refl
key_back (Some name) h = rw (name_back name h) refl

key_no_digit : (name : Option (List ℕ)) → ends_digits (key_part name) ≡ true
key_no_digit None = refl
key_no_digit (Some name) = refl

trigger_back : (trigger : Trigger) → IsTrigger trigger → trigger_end (trigger_part trigger) ≡ Ok trigger
unfolding trigger_end
trigger_back trigger h =
    number32 (codes " fs ") expected.Fs trigger.fs (key_part trigger.name) _ trigger h.fs (key_no_digit trigger.name)
    (goes (key_end (key_part trigger.name)) trigger.name _ trigger (key_back trigger.name h.name) refl)

type_back : (kind : PacketType) (rest : List ℕ) → type_cut (type_part kind ++ rest) ≡ Ok (kind, rest)
unfolding type_cut
type_back MissingIndirect rest = refl
type_back ExpireIndirect rest = refl
type_back MissingDirect rest = refl
type_back ExpireDirect rest = refl

type_no_digit : (kind : PacketType) (rest : List ℕ) → ends_digits (type_part kind ++ rest) ≡ true
type_no_digit MissingIndirect rest = refl
type_no_digit ExpireIndirect rest = refl
type_no_digit MissingDirect rest = refl
type_no_digit ExpireDirect rest = refl

packet_name_back : (name : List ℕ) → length name ≤ 255 → packet_name_end (codes " name " ++ name) ≡ Ok name
unfolding packet_name_end word_cut
packet_name_back name h =
    let short : nat_le (length name) 255 ≡ true = grind (arith, nat_tests) in
    rw short refl

of_its_token : (token : ℕ) (p : Packet) → p.token ≡ token → ok (record { kind = p.kind; token = token; dev = p.dev; ino = p.ino; uid = p.uid; gid = p.gid; pid = p.pid; tgid = p.tgid; name = p.name }) ≡ ok p
of_its_token token p e =
    subst (λ (t : ℕ). ok (record { kind = p.kind; token = t; dev = p.dev; ino = p.ino; uid = p.uid; gid = p.gid; pid = p.pid; tgid = p.tgid; name = p.name }) ≡ ok p) e refl

packet_back : (token : ℕ) (p : Packet) → IsPacketOf token p → packet_end token (packet_part p) ≡ Ok p
unfolding packet_end
packet_back token p h =
    let t6 : List ℕ = codes " name " ++ p.name in
    let t5 : List ℕ = codes " tgid " ++ (decimal p.tgid ++ t6) in
    let t4 : List ℕ = codes " pid " ++ (decimal p.pid ++ t5) in
    let t3 : List ℕ = codes " gid " ++ (decimal p.gid ++ t4) in
    let t2 : List ℕ = codes " uid " ++ (decimal p.uid ++ t3) in
    let t1 : List ℕ = codes " ino " ++ (decimal p.ino ++ t2) in
    let t0 : List ℕ = codes " dev " ++ (decimal p.dev ++ t1) in
    subst (λ (t : List ℕ). packet_end token (type_part p.kind ++ t) ≡ Ok p)
    (sym (packet_joins p.dev p.ino p.uid p.gid p.pid p.tgid p.name))
    (goes (type_cut (type_part p.kind ++ t0)) (p.kind, t0) _ p (type_back p.kind t0)
    (number32 (codes " dev ") expected.PacketNumber p.dev t1 _ p h.dev refl
    (number64 (codes " ino ") expected.PacketNumber p.ino t2 _ p h.ino refl
    (number32 (codes " uid ") expected.PacketNumber p.uid t3 _ p h.uid refl
    (number32 (codes " gid ") expected.PacketNumber p.gid t4 _ p h.gid refl
    (number32 (codes " pid ") expected.PacketNumber p.pid t5 _ p h.pid refl
    (number32 (codes " tgid ") expected.PacketNumber p.tgid t6 _ p h.tgid refl
    (goes (packet_name_end t6) p.name _ p (packet_name_back p.name h.name) (of_its_token token p h.of_token)))))))))

entry_back : (entry : Option Record) (rest : List ℕ) → IsEntry entry → ends_digits rest ≡ true → entry_cut (codes " " ++ (entry_text entry ++ rest)) ≡ Ok (entry, rest)
unfolding entry_cut mounting_cut mounted_cut unmounting_cut
entry_back None rest h e = refl
entry_back (Some (Mounting token)) rest h e =
    goes (numeral_cut (2 ^ 32) expected.Token (decimal token ++ rest)) (token, rest) _ _ (numeral_back (2 ^ 32) expected.Token token rest h small32 e) refl
entry_back (Some (Mounted mount)) rest h e =
    goes (numeral_cut (2 ^ 64) expected.Mount (decimal mount ++ rest)) (mount, rest) _ _ (numeral_back (2 ^ 64) expected.Mount mount rest h small64 e) refl
entry_back (Some (Unmounting token mount)) rest h e =
    subst (λ (t : List ℕ). entry_cut (codes " unmounting " ++ t) ≡ Ok (Some (Unmounting token mount), rest))
    (sym (append_assoc (decimal token) (codes " " ++ decimal mount) rest))
    (goes (numeral_cut (2 ^ 32) expected.Token (decimal token ++ (codes " " ++ (decimal mount ++ rest)))) (token, codes " " ++ (decimal mount ++ rest)) _ _
    (numeral_back (2 ^ 32) expected.Token token (codes " " ++ (decimal mount ++ rest)) h.0 small32 refl)
    (number64 (codes " ") expected.Mount mount rest _ _ h.1 e refl))

mounts_no_digit : (mounts : List ℕ) → ends_digits (mounts_text mounts) ≡ true
mounts_no_digit [] = refl
mounts_no_digit (mount ∷ mounts) = refl

mounts_back : (most : ℕ) (mounts : List ℕ) → AreMounts mounts → length (mounts_text mounts) ≤ most → mounts_in most (mounts_text mounts) ≡ Ok mounts
mounts_back zero [] h short = refl
mounts_back (suc most) [] h short = refl
mounts_back zero (mount ∷ mounts) h short = absurd (omega arith)
mounts_back (suc most) (mount ∷ mounts) h short =
    let less : suc (length (decimal mount ++ mounts_text mounts)) ≤ suc most = short in
    let others : length (mounts_text mounts) ≤ most = omega (arith, less, length-append (decimal mount) (mounts_text mounts)) in
    number64 (codes " ") expected.Mount mount (mounts_text mounts) _ _ h.0 (mounts_no_digit mounts)
    (goes (mounts_in most (mounts_text mounts)) mounts _ _ (mounts_back most mounts h.1 others) refl)

-- ---- the observations

parts_back : (token attach : ℕ) (packet : Packet) → token < 2 ^ 32 → attach < 2 ^ 32 → IsPacketOf token packet → packet_parts (codes " " ++ (decimal token ++ (codes " attach " ++ (decimal attach ++ packet_part packet)))) ≡ Ok (token, attach, packet)
unfolding packet_parts
parts_back token attach packet t a p =
    number32 (codes " ") expected.Token token (codes " attach " ++ (decimal attach ++ packet_part packet)) _ _ t refl
    (number32 (codes " attach ") expected.Attach attach (packet_part packet) _ _ a (type_no_digit packet.kind _)
    (goes (packet_end token (packet_part packet)) packet _ _ (packet_back token packet p) refl))

mounted_back : (mounts : List ℕ) → AreMounts mounts → mounted_read (mounts_text mounts) ≡ Ok (seen.Mounted mounts)
unfolding mounted_read
mounted_back mounts h = goes (mounts_in (length (mounts_text mounts)) (mounts_text mounts)) mounts _ _ (mounts_back (length (mounts_text mounts)) mounts h (omega arith)) refl

unmounted_back : (mounts : List ℕ) → AreMounts mounts → unmounted_read (mounts_text mounts) ≡ Ok (seen.Unmounted mounts)
unfolding unmounted_read
unmounted_back mounts h = goes (mounts_in (length (mounts_text mounts)) (mounts_text mounts)) mounts _ _ (mounts_back (length (mounts_text mounts)) mounts h (omega arith)) refl

obs_back : (obs : Obs) → IsObs obs → text_read (obs_text obs) ≡ Ok obs
unfolding text_read word_read read_behind queued_read delivered_read waits_read answered_read catatonic_read released_read passed_read entered_read left_read recorded_read reattached_read died_read end_cut
obs_back (seen.Queued token attach packet) h =
    goes (packet_parts (codes " " ++ (decimal token ++ (codes " attach " ++ (decimal attach ++ packet_part packet))))) (token, attach, packet) _ _ (parts_back token attach packet h.0 h.1 h.2) refl
obs_back (seen.Waits walker token) h =
    number32 (codes " ") expected.Number walker (codes " token " ++ decimal token) _ _ h.0 refl
    (last32 (codes " token ") expected.Token token _ _ h.1 refl)
obs_back (seen.Answered token status) h =
    number32 (codes " ") expected.Token token (status_part status) _ _ h (status_no_digit status)
    (goes (status_end (status_part status)) status _ _ (status_back status) refl)
obs_back (seen.Catatonic fs) h = last32 (codes " ") expected.Fs fs _ _ h refl
obs_back (seen.Released walker token status) h =
    number32 (codes " ") expected.Number walker (codes " token " ++ (decimal token ++ status_part status)) _ _ h.0 refl
    (number32 (codes " token ") expected.Token token (status_part status) _ _ h.1 (status_no_digit status)
    (goes (status_end (status_part status)) status _ _ (status_back status) refl))
obs_back (seen.Passed walker trigger) h =
    number32 (codes " ") expected.Number walker (trigger_part trigger) _ _ h.0 refl
    (goes (trigger_end (trigger_part trigger)) trigger _ _ (trigger_back trigger h.1) refl)
obs_back (seen.Entered walker mount) h =
    number32 (codes " ") expected.Number walker (codes " mount " ++ decimal mount) _ _ h.0 refl
    (last64 (codes " mount ") expected.Mount mount _ _ h.1 refl)
obs_back (seen.Left walker mount) h =
    number32 (codes " ") expected.Number walker (codes " mount " ++ decimal mount) _ _ h.0 refl
    (last64 (codes " mount ") expected.Mount mount _ _ h.1 refl)
obs_back (seen.Mounted []) h = mounted_back [] h
obs_back (seen.Mounted (mount ∷ mounts)) h = mounted_back (mount ∷ mounts) h
obs_back (seen.Unmounted []) h = unmounted_back [] h
obs_back (seen.Unmounted (mount ∷ mounts)) h = unmounted_back (mount ∷ mounts) h
obs_back (seen.Delivered token attach packet) h =
    goes (packet_parts (codes " " ++ (decimal token ++ (codes " attach " ++ (decimal attach ++ packet_part packet))))) (token, attach, packet) _ _ (parts_back token attach packet h.0 h.1 h.2) refl
obs_back (seen.Recorded trigger entry) h =
    goes (entry_cut (codes " " ++ (entry_text entry ++ trigger_part trigger))) (entry, trigger_part trigger) _ _ (entry_back entry (trigger_part trigger) h.0 refl)
    (goes (trigger_end (trigger_part trigger)) trigger _ _ (trigger_back trigger h.1) refl)
obs_back (seen.Reattached fs attach) h =
    number32 (codes " ") expected.Fs fs (codes " attach " ++ decimal attach) _ _ h.0 refl
    (last32 (codes " attach ") expected.Attach attach _ _ h.1 refl)
obs_back seen.Died h = refl

-- a line that says an observation is read as that
pub line_back : (line : List ℕ) (obs : Obs) → Says line obs → line_read line ≡ Ok obs
unfolding line_read
line_back line obs h =
    subst (λ (l : List ℕ). line_read l ≡ Ok obs) (sym h.printed)
    (goes (word_cut (codes "  ") expected.Observation (codes "  " ++ obs_text obs)) (obs_text obs) _ obs
    (word_back (codes "  ") expected.Observation (obs_text obs)) (obs_back obs h.is_one))
