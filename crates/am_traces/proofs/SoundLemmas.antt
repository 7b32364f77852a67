-- What is read of a line is what is printed of it.
use Rattle.std.proofs.Common.{◌≡◌, ℕ, zero, suc, ◌+◌, ◌^◌, ◌<◌, ◌≤◌, Bool, true, false, cond, List, [], ◌∷◌, ◌++◌, length, take, drop, Option, Some, None, Result, Ok, Err, refl, sym, ap, ◌∙◌, subst, arith}
use Rattle.std.specs.Prelude.{codes, decimal, nat_le, nat_lt}
use Rattle.std.specs.List.{position_or_len}
use Rattle.std.specs.Option.{option_map_or}
use Rattle.std.specs.Result.{result_ok}
use Rattle.std.specs.Str.{bytes_eq}
use Rattle.std.proofs.lemmas.Fmt.{decimal_digit}
use Rattle.am_names.specs.declared.errno.Errno.TheVariants.{ENAMETOOLONG as TOO_LONG, EINVAL as INVALID}
use Rattle.std.proofs.lemmas.Slice.Eq.{bytes_eq-Decides}
use Rattle.std.proofs.lemmas.Bool.Decides.{nat_tests}
use Rattle.std.proofs.lemmas.List.{length-append, length-take-le, take-append-drop, append-nil, append_assoc}
use Rattle.std.proofs.lemmas.List.Sums.{prefix_len-le-length}
use Rattle.std.specs.Prelude.{not}
use Rattle.am_names.specs.{Status, is_name, name_read}
use Rattle.am_names.specs.declared.fail_no.FailNo.TheVariants.{ENOENT, EPERM, EBUSY, EEXIST, EINVAL, EAGAIN, ELOOP, ENAMETOOLONG, ENOSPC}
use Rattle.am_names.specs.declared.trigger.Status.TheVariants.{Ready, Fail}
use Rattle.am_names.specs.declared.trigger.Trigger.{Trigger}
use Rattle.am_wire.specs.{Packet}
use Rattle.am_wire.specs.declared.packet_type.PacketType.{PacketType}
use Rattle.am_wire.specs.declared.packet_type.PacketType.TheVariants.{MissingIndirect, ExpireIndirect, MissingDirect, ExpireDirect}
use Rattle.am_state.specs.{Obs, Record}
use Rattle.am_state.specs.declared.daemon_row.Record.TheVariants.{Mounting, Mounted, Unmounting}
use Rattle.am_state.specs.declared.obs.Obs.TheVariants as seen
use Rattle.am_script.specs.{entry_text, mounts_text}
use Rattle.am_views.specs.{status_part, trigger_part, obs_text}
use Rattle.am_views.specs.ObsText.{key_part, type_part, packet_part}
use Rattle.am_traces.specs.declared.fault.Expected.{Expected}
use Rattle.am_traces.specs.declared.fault.Expected.TheVariants as expected
use Rattle.am_traces.specs.declared.fault.Miss.{Miss}
use Rattle.am_traces.specs.declared.word.ObsWord.{ObsWord}
use Rattle.am_traces.specs.declared.word.ObsWord.TheVariants as words
use Rattle.am_traces.specs.Parts.{◌>>=◌, miss, or_miss, behind, word_cut, end_cut, numeral_cut, number_cut, status_end, name_end, key_end, trigger_end, type_cut, packet_name_end, packet_end, mounting_cut, mounted_cut, unmounting_cut, entry_cut}
use Rattle.am_traces.specs.Observations.{is_space, first_word, word_read, packet_parts, queued_read, delivered_read, waits_read, answered_read, catatonic_read, released_read, passed_read, entered_read, left_read, mounts_in, mounted_read, unmounted_read, recorded_read, reattached_read, died_read, read_behind, text_read, line_read}
use Rattle.am_traces.specs.Says.{IsKey, IsTrigger, IsPacketOf, IsEntry, AreMounts, IsObs, Says}
use Rattle.am_traces.proofs.PartLemmas.{went, ok, ok_is, found, behind_is, word_is, numeral_is, number_is, end_is}

-- ---- choices

-- what comes of the first text that is this one, else of the others
by_text : {T : Type 0} (text word : List ℕ) (x : T) (others : Result T Miss) (r : T) (P : T → Type 0) →
    cond (bytes_eq text word) (ok x) others ≡ Ok r → (text ≡ word → P x) → (others ≡ Ok r → P r) → P r
by_text text word x others r P e here there = go (bytes_eq text word) refl e
  where
    go : (b : Bool) → bytes_eq text word ≡ b → cond b (ok x) others ≡ Ok r → P r
    go true same h = subst P (ok_is x r h) (here ((bytes_eq-Decides text word).0 same))
    go false same h = there h

none_is : {T : Type 0} (m : Miss) (r : T) (P : Type 0) → Err m ≡ Ok r → P
none_is m r P e = absurd cc

-- what comes of what stands behind a word, if it begins with it, else of the others
by_word : {T : Type 0} (text word : List ℕ) (f : List ℕ → Result T Miss) (others : Result T Miss) (r : T) (P : Type 0) →
    option_map_or f (behind word text) others ≡ Ok r →
    ((rest : List ℕ) → text ≡ word ++ rest → f rest ≡ Ok r → P) → (others ≡ Ok r → P) → P
by_word text word f others r P e here there = go (behind word text) refl e
  where
    go : (o : Option (List ℕ)) → behind word text ≡ o → option_map_or f o others ≡ Ok r → P
    go None same h = there h
    go (Some rest) same h = here rest (behind_is word text rest same) h

-- ---- numbers

pub small32 : 2 ^ 32 ≤ 2 ^ 64
small32 = omega arith

pub small64 : 2 ^ 64 ≤ 2 ^ 64
small64 = omega arith

-- a number was read behind a word, and then the others
record WentNumber {B : Type 0} (word : List ℕ) (bound : ℕ) (text : List ℕ) (next : ℕ × List ℕ → Result B Miss) (b : B) : Type 0 where
  pub number : ℕ
  pub rest : List ℕ
  pub printed : text ≡ word ++ (decimal number ++ rest)
  pub fits : number < bound
  pub on : next (number, rest) ≡ Ok b

number32 : {B : Type 0} (word : List ℕ) (part : Expected) (text : List ℕ) (next : ℕ × List ℕ → Result B Miss) (b : B) → (number_cut word (2 ^ 32) part text >>= next) ≡ Ok b → WentNumber word (2 ^ 32) text next b
number32 word part text next b e =
    let w = went (number_cut word (2 ^ 32) part text) next b e in
    let n = number_is word (2 ^ 32) part text w.part small32 w.cut in
    record { number = w.part.0; rest = w.part.1; printed = n.printed; fits = n.fits; on = w.on }

number64 : {B : Type 0} (word : List ℕ) (part : Expected) (text : List ℕ) (next : ℕ × List ℕ → Result B Miss) (b : B) → (number_cut word (2 ^ 64) part text >>= next) ≡ Ok b → WentNumber word (2 ^ 64) text next b
number64 word part text next b e =
    let w = went (number_cut word (2 ^ 64) part text) next b e in
    let n = number_is word (2 ^ 64) part text w.part small64 w.cut in
    record { number = w.part.0; rest = w.part.1; printed = n.printed; fits = n.fits; on = w.on }

-- what follows a number
followed : (word : List ℕ) (number : ℕ) (text rest more : List ℕ) → text ≡ word ++ (decimal number ++ rest) → rest ≡ more → text ≡ word ++ (decimal number ++ more)
followed word number text rest more e f = e ∙ ap (λ (t : List ℕ). word ++ (decimal number ++ t)) f

-- nothing follows a number
last : (word : List ℕ) (number : ℕ) (text rest : List ℕ) → text ≡ word ++ (decimal number ++ rest) → rest ≡ [] → text ≡ word ++ decimal number
last word number text rest e f =
    followed word number text rest [] e f ∙ ap (λ (t : List ℕ). word ++ t) (append-nil (decimal number))

-- the end, and then what was read
ended : {B : Type 0} (text : List ℕ) (b r : B) → (end_cut text >>= (λ done. ok b)) ≡ Ok r → (text ≡ []) × (b ≡ r)
ended text b r e =
    let w = went (end_cut text) (λ done. ok b) r e in
    (end_is text w.part w.cut, ok_is b r w.on)

-- ---- the parts

fails : (n : ℕ) → n < 10 → codes " fail " ++ (48 + n) ∷ [] ≡ codes " fail " ++ decimal n
fails n h = ap (λ (t : List ℕ). codes " fail " ++ t) (sym (decimal_digit n h))

status_is : (text : List ℕ) (status : Status) → status_end text ≡ Ok status → text ≡ status_part status
unfolding status_end
status_is text status e =
    by_text text (codes " ready") Ready _ status (λ s. text ≡ status_part s) e (λ t. t) (λ e.
    by_text text (codes " fail") (Fail ENOENT) _ status (λ s. text ≡ status_part s) e (λ t. t) (λ e.
    by_text text (codes " fail 2") (Fail EPERM) _ status (λ s. text ≡ status_part s) e (λ t. t ∙ fails 2 (omega arith)) (λ e.
    by_text text (codes " fail 3") (Fail EBUSY) _ status (λ s. text ≡ status_part s) e (λ t. t ∙ fails 3 (omega arith)) (λ e.
    by_text text (codes " fail 4") (Fail EEXIST) _ status (λ s. text ≡ status_part s) e (λ t. t ∙ fails 4 (omega arith)) (λ e.
    by_text text (codes " fail 5") (Fail EINVAL) _ status (λ s. text ≡ status_part s) e (λ t. t ∙ fails 5 (omega arith)) (λ e.
    by_text text (codes " fail 6") (Fail EAGAIN) _ status (λ s. text ≡ status_part s) e (λ t. t ∙ fails 6 (omega arith)) (λ e.
    by_text text (codes " fail 7") (Fail ELOOP) _ status (λ s. text ≡ status_part s) e (λ t. t ∙ fails 7 (omega arith)) (λ e.
    by_text text (codes " fail 8") (Fail ENAMETOOLONG) _ status (λ s. text ≡ status_part s) e (λ t. t ∙ fails 8 (omega arith)) (λ e.
    by_text text (codes " fail 9") (Fail ENOSPC) _ status (λ s. text ≡ status_part s) e (λ t. t ∙ fails 9 (omega arith)) (λ e.
    none_is (miss expected.Status text) status (text ≡ status_part status) e))))))))))

name_is : (bytes name : List ℕ) → result_ok (name_read bytes) ≡ Some name → (bytes ≡ name) × (is_name name ≡ true)
name_is bytes name e = short (nat_lt 255 (length bytes)) e
  where
    right : (b : Bool) → is_name bytes ≡ b → result_ok (cond b (Ok bytes) (Err INVALID)) ≡ Some name → (bytes ≡ name) × (is_name name ≡ true)
    right true same h = let is : bytes ≡ name = cc in (is, subst (λ (n : List ℕ). is_name n ≡ true) is same)
    right false same h = absurd cc

    short : (b : Bool) → result_ok (cond b (Err TOO_LONG) (cond (is_name bytes) (Ok bytes) (Err INVALID))) ≡ Some name → (bytes ≡ name) × (is_name name ≡ true)
    short true h = absurd cc
    short false h = right (is_name bytes) refl h

-- a key that was read
record IsKeyOf (text : List ℕ) (name : Option (List ℕ)) : Type 0 where
  pub printed : text ≡ key_part name
  pub is_one : IsKey name

name_end_is : (text : List ℕ) (name : Option (List ℕ)) → name_end text ≡ Ok name → IsKeyOf text name
unfolding name_end
name_end_is text name e =
    let w = went (word_cut (codes " name ") expected.Key text) _ name e in
    let v = went (or_miss (miss expected.Key w.part) (result_ok (name_read w.part))) (λ n. ok (Some n)) name w.on in
    let n = name_is w.part v.part (found _ _ _ v.cut) in
    subst (IsKeyOf text) (ok_is (Some v.part) name v.on) (record {
      printed = word_is (codes " name ") expected.Key text w.part w.cut ∙ ap (λ (t : List ℕ). codes " name " ++ t) n.0;
      is_one = n.1;
    })

key_is : (text : List ℕ) (name : Option (List ℕ)) → key_end text ≡ Ok name → IsKeyOf text name
unfolding key_end
key_is text name e =
    by_text text (codes " direct") None _ name (IsKeyOf text) e
    (λ t. record { printed = t; is_one = tt }) (name_end_is text name)

-- a trigger that was read
record IsTriggerOf (text : List ℕ) (trigger : Trigger) : Type 0 where
  pub printed : text ≡ trigger_part trigger
  pub is_one : IsTrigger trigger

trigger_is : (text : List ℕ) (trigger : Trigger) → trigger_end text ≡ Ok trigger → IsTriggerOf text trigger
unfolding trigger_end
trigger_is text trigger e =
    let f = number32 (codes " fs ") expected.Fs text _ trigger e in
    let w = went (key_end f.rest) (λ n. ok (record { fs = f.number; name = n })) trigger f.on in
    let k = key_is f.rest w.part w.cut in
    subst (IsTriggerOf text) (ok_is _ trigger w.on) (record {
      printed = followed (codes " fs ") f.number text f.rest (key_part w.part) f.printed k.printed;
      is_one = record { fs = f.fits; name = k.is_one };
    })

-- the type of a packet that was read
record IsTypeOf (text : List ℕ) (cut : PacketType × List ℕ) : Type 0 where
  pub printed : text ≡ type_part cut.0 ++ cut.1

type_is : (text : List ℕ) (cut : PacketType × List ℕ) → type_cut text ≡ Ok cut → IsTypeOf text cut
unfolding type_cut
type_is text cut e =
    by_word text (codes " missing-indirect") (λ rest. ok (MissingIndirect, rest)) _ cut (IsTypeOf text cut) e
    (λ rest t h. subst (IsTypeOf text) (ok_is (MissingIndirect, rest) cut h) (record { printed = t })) (λ e.
    by_word text (codes " expire-indirect") (λ rest. ok (ExpireIndirect, rest)) _ cut (IsTypeOf text cut) e
    (λ rest t h. subst (IsTypeOf text) (ok_is (ExpireIndirect, rest) cut h) (record { printed = t })) (λ e.
    by_word text (codes " missing-direct") (λ rest. ok (MissingDirect, rest)) _ cut (IsTypeOf text cut) e
    (λ rest t h. subst (IsTypeOf text) (ok_is (MissingDirect, rest) cut h) (record { printed = t })) (λ e.
    by_word text (codes " expire-direct") (λ rest. ok (ExpireDirect, rest)) _ cut (IsTypeOf text cut) e
    (λ rest t h. subst (IsTypeOf text) (ok_is (ExpireDirect, rest) cut h) (record { printed = t })) (λ e.
    none_is (miss expected.PacketType text) cut (IsTypeOf text cut) e))))

packet_name_is : (text name : List ℕ) → packet_name_end text ≡ Ok name → (text ≡ codes " name " ++ name) × (length name ≤ 255)
unfolding packet_name_end
packet_name_is text name e =
    let w = went (word_cut (codes " name ") expected.PacketName text) _ name e in
    let h = within (nat_le (length w.part) 255) w.part name (miss expected.PacketName w.part) w.on in
    let short : length w.part ≤ 255 = grind (arith, nat_tests, h.0) in (
      word_is (codes " name ") expected.PacketName text w.part w.cut ∙ ap (λ (t : List ℕ). codes " name " ++ t) h.1,
      subst (λ (n : List ℕ). length n ≤ 255) h.1 short,
    )
  where
    within : (b : Bool) (x y : List ℕ) (m : Miss) → cond b (ok x) (Err m) ≡ Ok y → (b ≡ true) × (x ≡ y)
    within true x y m e = (refl, ok_is x y e)
    within false x y m e = absurd cc

-- the numbers of a packet stand one behind another
pub packet_joins : (dev ino uid gid pid tgid : ℕ) (name : List ℕ) →
    (codes " dev " ++ (decimal dev ++ (codes " ino " ++ decimal ino))) ++ ((codes " uid " ++ (decimal uid ++ (codes " gid " ++ decimal gid))) ++ ((codes " pid " ++ (decimal pid ++ (codes " tgid " ++ decimal tgid))) ++ (codes " name " ++ name)))
    ≡ codes " dev " ++ (decimal dev ++ (codes " ino " ++ (decimal ino ++ (codes " uid " ++ (decimal uid ++ (codes " gid " ++ (decimal gid ++ (codes " pid " ++ (decimal pid ++ (codes " tgid " ++ (decimal tgid ++ (codes " name " ++ name))))))))))))
packet_joins dev ino uid gid pid tgid name = simp append_assoc

-- a packet that was read
record IsPacketIn (token : ℕ) (text : List ℕ) (packet : Packet) : Type 0 where
  pub printed : text ≡ packet_part packet
  pub is_one : IsPacketOf token packet

packet_is : (token : ℕ) (text : List ℕ) (packet : Packet) → packet_end token text ≡ Ok packet → IsPacketIn token text packet
unfolding packet_end
packet_is token text packet e =
    let k = went (type_cut text) _ packet e in
    let kind = type_is text k.part k.cut in
    let dev = number32 (codes " dev ") expected.PacketNumber k.part.1 _ packet k.on in
    let ino = number64 (codes " ino ") expected.PacketNumber dev.rest _ packet dev.on in
    let uid = number32 (codes " uid ") expected.PacketNumber ino.rest _ packet ino.on in
    let gid = number32 (codes " gid ") expected.PacketNumber uid.rest _ packet uid.on in
    let pid = number32 (codes " pid ") expected.PacketNumber gid.rest _ packet gid.on in
    let tgid = number32 (codes " tgid ") expected.PacketNumber pid.rest _ packet pid.on in
    let n = went (packet_name_end tgid.rest) _ packet tgid.on in
    let name = packet_name_is tgid.rest n.part n.cut in
    let t6 : List ℕ = codes " name " ++ n.part in
    let t5 : List ℕ = codes " tgid " ++ (decimal tgid.number ++ t6) in
    let t4 : List ℕ = codes " pid " ++ (decimal pid.number ++ t5) in
    let t3 : List ℕ = codes " gid " ++ (decimal gid.number ++ t4) in
    let t2 : List ℕ = codes " uid " ++ (decimal uid.number ++ t3) in
    let t1 : List ℕ = codes " ino " ++ (decimal ino.number ++ t2) in
    let t0 : List ℕ = codes " dev " ++ (decimal dev.number ++ t1) in
    let e5 : pid.rest ≡ t5 = followed (codes " tgid ") tgid.number pid.rest tgid.rest t6 tgid.printed name.0 in
    let e4 : gid.rest ≡ t4 = followed (codes " pid ") pid.number gid.rest pid.rest t5 pid.printed e5 in
    let e3 : uid.rest ≡ t3 = followed (codes " gid ") gid.number uid.rest gid.rest t4 gid.printed e4 in
    let e2 : ino.rest ≡ t2 = followed (codes " uid ") uid.number ino.rest uid.rest t3 uid.printed e3 in
    let e1 : dev.rest ≡ t1 = followed (codes " ino ") ino.number dev.rest ino.rest t2 ino.printed e2 in
    let e0 : k.part.1 ≡ t0 = followed (codes " dev ") dev.number k.part.1 dev.rest t1 dev.printed e1 in
    subst (IsPacketIn token text) (ok_is _ packet n.on) (record {
      printed = kind.printed ∙ ap (λ (t : List ℕ). type_part k.part.0 ++ t) (e0 ∙ sym (packet_joins dev.number ino.number uid.number gid.number pid.number tgid.number n.part));
      is_one = record {
        of_token = refl;
        dev = dev.fits;
        ino = ino.fits;
        uid = uid.fits;
        gid = gid.fits;
        pid = pid.fits;
        tgid = tgid.fits;
        name = name.1;
      };
    })

-- an entry that was read
record IsEntryOf (text : List ℕ) (cut : Option Record × List ℕ) : Type 0 where
  pub printed : text ≡ codes " " ++ (entry_text cut.0 ++ cut.1)
  pub is_one : IsEntry cut.0

mounting_is : (text rest : List ℕ) (cut : Option Record × List ℕ) → text ≡ codes " mounting " ++ rest → mounting_cut rest ≡ Ok cut → IsEntryOf text cut
unfolding mounting_cut
mounting_is text rest cut t e =
    let w = went (numeral_cut (2 ^ 32) expected.Token rest) (λ token. ok (Some (Mounting token.0), token.1)) cut e in
    let n = numeral_is (2 ^ 32) expected.Token rest w.part small32 w.cut in
    subst (IsEntryOf text) (ok_is _ cut w.on) (record {
      printed = t ∙ ap (λ (l : List ℕ). codes " mounting " ++ l) n.printed;
      is_one = n.fits;
    })

mounted_is : (text rest : List ℕ) (cut : Option Record × List ℕ) → text ≡ codes " mounted " ++ rest → mounted_cut rest ≡ Ok cut → IsEntryOf text cut
unfolding mounted_cut
mounted_is text rest cut t e =
    let w = went (numeral_cut (2 ^ 64) expected.Mount rest) (λ mount. ok (Some (Mounted mount.0), mount.1)) cut e in
    let n = numeral_is (2 ^ 64) expected.Mount rest w.part small64 w.cut in
    subst (IsEntryOf text) (ok_is _ cut w.on) (record {
      printed = t ∙ ap (λ (l : List ℕ). codes " mounted " ++ l) n.printed;
      is_one = n.fits;
    })

unmounting_is : (text rest : List ℕ) (cut : Option Record × List ℕ) → text ≡ codes " unmounting " ++ rest → unmounting_cut rest ≡ Ok cut → IsEntryOf text cut
unfolding unmounting_cut
unmounting_is text rest cut t e =
    let w = went (numeral_cut (2 ^ 32) expected.Token rest) _ cut e in
    let n = numeral_is (2 ^ 32) expected.Token rest w.part small32 w.cut in
    let m = number64 (codes " ") expected.Mount w.part.1 (λ mount. ok (Some (Unmounting w.part.0 mount.0), mount.1)) cut w.on in
    subst (IsEntryOf text) (ok_is _ cut m.on) (record {
      printed = t ∙ ap (λ (l : List ℕ). codes " unmounting " ++ l) (n.printed ∙ ap (λ (l : List ℕ). decimal w.part.0 ++ l) m.printed
          ∙ sym (append_assoc (decimal w.part.0) (codes " " ++ decimal m.number) m.rest));
      is_one = (n.fits, m.fits);
    })

entry_is : (text : List ℕ) (cut : Option Record × List ℕ) → entry_cut text ≡ Ok cut → IsEntryOf text cut
unfolding entry_cut
entry_is text cut e =
    by_word text (codes " none") (λ rest. ok (None, rest)) _ cut (IsEntryOf text cut) e
    (λ rest t h. subst (IsEntryOf text) (ok_is (None, rest) cut h) (record { printed = t; is_one = tt })) (λ e.
    by_word text (codes " mounting ") mounting_cut _ cut (IsEntryOf text cut) e
    (λ rest t h. mounting_is text rest cut t h) (λ e.
    by_word text (codes " mounted ") mounted_cut _ cut (IsEntryOf text cut) e
    (λ rest t h. mounted_is text rest cut t h) (λ e.
    by_word text (codes " unmounting ") unmounting_cut _ cut (IsEntryOf text cut) e
    (λ rest t h. unmounting_is text rest cut t h) (λ e.
    none_is (miss expected.Entry text) cut (IsEntryOf text cut) e))))

-- mounts that were read
record AreMountsOf (text mounts : List ℕ) : Type 0 where
  pub printed : text ≡ mounts_text mounts
  pub are_ones : AreMounts mounts

mounts_are : (most : ℕ) (text mounts : List ℕ) → length text ≤ most → mounts_in most text ≡ Ok mounts → AreMountsOf text mounts
mounts_are zero [] mounts h e = subst (AreMountsOf []) (ok_is [] mounts e) (record { printed = refl; are_ones = tt })
mounts_are zero (b ∷ text) mounts h e = absurd (omega arith)
mounts_are (suc most) [] mounts h e = subst (AreMountsOf []) (ok_is [] mounts e) (record { printed = refl; are_ones = tt })
mounts_are (suc most) (b ∷ text) mounts h e =
    let n = number64 (codes " ") expected.Mount (b ∷ text) _ mounts e in
    let w = went (mounts_in most n.rest) (λ others. ok (n.number ∷ others)) mounts n.on in
    let shorter : length n.rest ≤ most = omega (arith, ap length n.printed, length-append (decimal n.number) n.rest) in
    let others = mounts_are most n.rest w.part shorter w.cut in
    subst (AreMountsOf (b ∷ text)) (ok_is _ mounts w.on) (record {
      printed = followed (codes " ") n.number (b ∷ text) n.rest (mounts_text w.part) n.printed others.printed;
      are_ones = (n.fits, others.are_ones);
    })

-- ---- the observations

-- behind the word stands what is printed of the observation
record Tail (word text : List ℕ) (obs : Obs) : Type 0 where
  pub is_one : IsObs obs
  pub printed : word ++ text ≡ obs_text obs

before : (word text more : List ℕ) → text ≡ more → word ++ text ≡ word ++ more
before word text more e = ap (λ (t : List ℕ). word ++ t) e

-- the parts of a packet's line
record AreParts (text : List ℕ) (parts : ℕ × ℕ × Packet) : Type 0 where
  pub printed : text ≡ codes " " ++ (decimal parts.0 ++ (codes " attach " ++ (decimal parts.1 ++ packet_part parts.2)))
  pub token : parts.0 < 2 ^ 32
  pub attach : parts.1 < 2 ^ 32
  pub packet : IsPacketOf parts.0 parts.2

parts_are : (text : List ℕ) (parts : ℕ × ℕ × Packet) → packet_parts text ≡ Ok parts → AreParts text parts
unfolding packet_parts
parts_are text parts e =
    let t = number32 (codes " ") expected.Token text _ parts e in
    let a = number32 (codes " attach ") expected.Attach t.rest _ parts t.on in
    let w = went (packet_end t.number a.rest) (λ packet. ok (t.number, a.number, packet)) parts a.on in
    let p = packet_is t.number a.rest w.part w.cut in
    subst (AreParts text) (ok_is _ parts w.on) (record {
      printed = followed (codes " ") t.number text t.rest _ t.printed (followed (codes " attach ") a.number t.rest a.rest (packet_part w.part) a.printed p.printed);
      token = t.fits;
      attach = a.fits;
      packet = p.is_one;
    })

queued_is : (text : List ℕ) (obs : Obs) → queued_read text ≡ Ok obs → Tail (codes "queued") text obs
unfolding queued_read
queued_is text obs e =
    let w = went (packet_parts text) (λ parts. ok (seen.Queued parts.0 parts.1 parts.2)) obs e in
    let p = parts_are text w.part w.cut in
    subst (Tail (codes "queued") text) (ok_is _ obs w.on) (record {
      is_one = (p.token, p.attach, p.packet);
      printed = before (codes "queued") text _ p.printed;
    })

delivered_is : (text : List ℕ) (obs : Obs) → delivered_read text ≡ Ok obs → Tail (codes "delivered") text obs
unfolding delivered_read
delivered_is text obs e =
    let w = went (packet_parts text) (λ parts. ok (seen.Delivered parts.0 parts.1 parts.2)) obs e in
    let p = parts_are text w.part w.cut in
    subst (Tail (codes "delivered") text) (ok_is _ obs w.on) (record {
      is_one = (p.token, p.attach, p.packet);
      printed = before (codes "delivered") text _ p.printed;
    })

waits_is : (text : List ℕ) (obs : Obs) → waits_read text ≡ Ok obs → Tail (codes "waits") text obs
unfolding waits_read
waits_is text obs e =
    let w = number32 (codes " ") expected.Number text _ obs e in
    let t = number32 (codes " token ") expected.Token w.rest _ obs w.on in
    let d = ended t.rest (seen.Waits w.number t.number) obs t.on in
    subst (Tail (codes "waits") text) d.1 (record {
      is_one = (w.fits, t.fits);
      printed = before (codes "waits") text _ (followed (codes " ") w.number text w.rest _ w.printed (last (codes " token ") t.number w.rest t.rest t.printed d.0));
    })

answered_is : (text : List ℕ) (obs : Obs) → answered_read text ≡ Ok obs → Tail (codes "answered") text obs
unfolding answered_read
answered_is text obs e =
    let t = number32 (codes " ") expected.Token text _ obs e in
    let w = went (status_end t.rest) (λ status. ok (seen.Answered t.number status)) obs t.on in
    subst (Tail (codes "answered") text) (ok_is _ obs w.on) (record {
      is_one = t.fits;
      printed = before (codes "answered") text _ (followed (codes " ") t.number text t.rest _ t.printed (status_is t.rest w.part w.cut));
    })

catatonic_is : (text : List ℕ) (obs : Obs) → catatonic_read text ≡ Ok obs → Tail (codes "catatonic") text obs
unfolding catatonic_read
catatonic_is text obs e =
    let f = number32 (codes " ") expected.Fs text _ obs e in
    let d = ended f.rest (seen.Catatonic f.number) obs f.on in
    subst (Tail (codes "catatonic") text) d.1 (record {
      is_one = f.fits;
      printed = before (codes "catatonic") text _ (last (codes " ") f.number text f.rest f.printed d.0);
    })

released_is : (text : List ℕ) (obs : Obs) → released_read text ≡ Ok obs → Tail (codes "released") text obs
unfolding released_read
released_is text obs e =
    let w = number32 (codes " ") expected.Number text _ obs e in
    let t = number32 (codes " token ") expected.Token w.rest _ obs w.on in
    let s = went (status_end t.rest) (λ status. ok (seen.Released w.number t.number status)) obs t.on in
    subst (Tail (codes "released") text) (ok_is _ obs s.on) (record {
      is_one = (w.fits, t.fits);
      printed = before (codes "released") text _ (followed (codes " ") w.number text w.rest _ w.printed (followed (codes " token ") t.number w.rest t.rest _ t.printed (status_is t.rest s.part s.cut)));
    })

passed_is : (text : List ℕ) (obs : Obs) → passed_read text ≡ Ok obs → Tail (codes "passed") text obs
unfolding passed_read
passed_is text obs e =
    let w = number32 (codes " ") expected.Number text _ obs e in
    let s = went (trigger_end w.rest) (λ trigger. ok (seen.Passed w.number trigger)) obs w.on in
    let t = trigger_is w.rest s.part s.cut in
    subst (Tail (codes "passed") text) (ok_is _ obs s.on) (record {
      is_one = (w.fits, t.is_one);
      printed = before (codes "passed") text _ (followed (codes " ") w.number text w.rest _ w.printed t.printed);
    })

entered_is : (text : List ℕ) (obs : Obs) → entered_read text ≡ Ok obs → Tail (codes "entered") text obs
unfolding entered_read
entered_is text obs e =
    let w = number32 (codes " ") expected.Number text _ obs e in
    let m = number64 (codes " mount ") expected.Mount w.rest _ obs w.on in
    let d = ended m.rest (seen.Entered w.number m.number) obs m.on in
    subst (Tail (codes "entered") text) d.1 (record {
      is_one = (w.fits, m.fits);
      printed = before (codes "entered") text _ (followed (codes " ") w.number text w.rest _ w.printed (last (codes " mount ") m.number w.rest m.rest m.printed d.0));
    })

left_is : (text : List ℕ) (obs : Obs) → left_read text ≡ Ok obs → Tail (codes "left") text obs
unfolding left_read
left_is text obs e =
    let w = number32 (codes " ") expected.Number text _ obs e in
    let m = number64 (codes " mount ") expected.Mount w.rest _ obs w.on in
    let d = ended m.rest (seen.Left w.number m.number) obs m.on in
    subst (Tail (codes "left") text) d.1 (record {
      is_one = (w.fits, m.fits);
      printed = before (codes "left") text _ (followed (codes " ") w.number text w.rest _ w.printed (last (codes " mount ") m.number w.rest m.rest m.printed d.0));
    })

mounted_obs_is : (text : List ℕ) (obs : Obs) → mounted_read text ≡ Ok obs → Tail (codes "mounted") text obs
unfolding mounted_read
mounted_obs_is text obs e =
    let w = went (mounts_in (length text) text) (λ mounts. ok (seen.Mounted mounts)) obs e in
    let m = mounts_are (length text) text w.part (omega arith) w.cut in
    subst (Tail (codes "mounted") text) (ok_is _ obs w.on) (record {
      is_one = m.are_ones;
      printed = before (codes "mounted") text _ m.printed;
    })

unmounted_obs_is : (text : List ℕ) (obs : Obs) → unmounted_read text ≡ Ok obs → Tail (codes "unmounted") text obs
unfolding unmounted_read
unmounted_obs_is text obs e =
    let w = went (mounts_in (length text) text) (λ mounts. ok (seen.Unmounted mounts)) obs e in
    let m = mounts_are (length text) text w.part (omega arith) w.cut in
    subst (Tail (codes "unmounted") text) (ok_is _ obs w.on) (record {
      is_one = m.are_ones;
      printed = before (codes "unmounted") text _ m.printed;
    })

recorded_is : (text : List ℕ) (obs : Obs) → recorded_read text ≡ Ok obs → Tail (codes "recorded") text obs
unfolding recorded_read
recorded_is text obs e =
    let w = went (entry_cut text) _ obs e in
    let n = entry_is text w.part w.cut in
    let s = went (trigger_end w.part.1) (λ trigger. ok (seen.Recorded trigger w.part.0)) obs w.on in
    let t = trigger_is w.part.1 s.part s.cut in
    subst (Tail (codes "recorded") text) (ok_is _ obs s.on) (record {
      is_one = (n.is_one, t.is_one);
      printed = before (codes "recorded") text _ (n.printed ∙ ap (λ (l : List ℕ). codes " " ++ (entry_text w.part.0 ++ l)) t.printed);
    })

reattached_is : (text : List ℕ) (obs : Obs) → reattached_read text ≡ Ok obs → Tail (codes "reattached") text obs
unfolding reattached_read
reattached_is text obs e =
    let f = number32 (codes " ") expected.Fs text _ obs e in
    let a = number32 (codes " attach ") expected.Attach f.rest _ obs f.on in
    let d = ended a.rest (seen.Reattached f.number a.number) obs a.on in
    subst (Tail (codes "reattached") text) d.1 (record {
      is_one = (f.fits, a.fits);
      printed = before (codes "reattached") text _ (followed (codes " ") f.number text f.rest _ f.printed (last (codes " attach ") a.number f.rest a.rest a.printed d.0));
    })

died_is : (text : List ℕ) (obs : Obs) → died_read text ≡ Ok obs → Tail (codes "died") text obs
unfolding died_read
died_is text obs e =
    let d = ended text seen.Died obs e in
    subst (Tail (codes "died") text) d.1 (record {
      is_one = tt;
      printed = before (codes "died") text [] d.0;
    })

-- ---- the line

abbrev word_text : ObsWord → List ℕ
word_text words.Queued = codes "queued"
word_text words.Waits = codes "waits"
word_text words.Answered = codes "answered"
word_text words.Catatonic = codes "catatonic"
word_text words.Released = codes "released"
word_text words.Passed = codes "passed"
word_text words.Entered = codes "entered"
word_text words.Left = codes "left"
word_text words.Mounted = codes "mounted"
word_text words.Unmounted = codes "unmounted"
word_text words.Delivered = codes "delivered"
word_text words.Recorded = codes "recorded"
word_text words.Reattached = codes "reattached"
word_text words.Died = codes "died"

tail_is : (word : ObsWord) (text : List ℕ) (obs : Obs) → read_behind word text ≡ Ok obs → Tail (word_text word) text obs
unfolding read_behind
tail_is words.Queued text obs e = queued_is text obs e
tail_is words.Waits text obs e = waits_is text obs e
tail_is words.Answered text obs e = answered_is text obs e
tail_is words.Catatonic text obs e = catatonic_is text obs e
tail_is words.Released text obs e = released_is text obs e
tail_is words.Passed text obs e = passed_is text obs e
tail_is words.Entered text obs e = entered_is text obs e
tail_is words.Left text obs e = left_is text obs e
tail_is words.Mounted text obs e = mounted_obs_is text obs e
tail_is words.Unmounted text obs e = unmounted_obs_is text obs e
tail_is words.Delivered text obs e = delivered_is text obs e
tail_is words.Recorded text obs e = recorded_is text obs e
tail_is words.Reattached text obs e = reattached_is text obs e
tail_is words.Died text obs e = died_is text obs e

-- the first text that this one is, else the others
pick : (text word : List ℕ) (x : ObsWord) (others : Option ObsWord) (r : ObsWord) (P : ObsWord → Type 0) →
    cond (bytes_eq text word) (Some x) others ≡ Some r → (text ≡ word → P x) → (others ≡ Some r → P r) → P r
pick text word x others r P e here there = go (bytes_eq text word) refl e
  where
    go : (b : Bool) → bytes_eq text word ≡ b → cond b (Some x) others ≡ Some r → P r
    go true same h = let is : x ≡ r = cc in subst P is (here ((bytes_eq-Decides text word).0 same))
    go false same h = there h

word_is_text : (text : List ℕ) (word : ObsWord) → word_read text ≡ Some word → text ≡ word_text word
unfolding word_read
word_is_text text word e =
    pick text (codes "queued") words.Queued _ word (λ w. text ≡ word_text w) e (λ t. t) (λ e.
    pick text (codes "waits") words.Waits _ word (λ w. text ≡ word_text w) e (λ t. t) (λ e.
    pick text (codes "answered") words.Answered _ word (λ w. text ≡ word_text w) e (λ t. t) (λ e.
    pick text (codes "catatonic") words.Catatonic _ word (λ w. text ≡ word_text w) e (λ t. t) (λ e.
    pick text (codes "released") words.Released _ word (λ w. text ≡ word_text w) e (λ t. t) (λ e.
    pick text (codes "passed") words.Passed _ word (λ w. text ≡ word_text w) e (λ t. t) (λ e.
    pick text (codes "entered") words.Entered _ word (λ w. text ≡ word_text w) e (λ t. t) (λ e.
    pick text (codes "left") words.Left _ word (λ w. text ≡ word_text w) e (λ t. t) (λ e.
    pick text (codes "mounted") words.Mounted _ word (λ w. text ≡ word_text w) e (λ t. t) (λ e.
    pick text (codes "unmounted") words.Unmounted _ word (λ w. text ≡ word_text w) e (λ t. t) (λ e.
    pick text (codes "delivered") words.Delivered _ word (λ w. text ≡ word_text w) e (λ t. t) (λ e.
    pick text (codes "recorded") words.Recorded _ word (λ w. text ≡ word_text w) e (λ t. t) (λ e.
    pick text (codes "reattached") words.Reattached _ word (λ w. text ≡ word_text w) e (λ t. t) (λ e.
    pick text (codes "died") words.Died _ word (λ w. text ≡ word_text w) e (λ t. t) (λ e. absurd cc))))))))))))))

front_word : (text : List ℕ) → take (length (first_word text)) text ≡ first_word text
front_word text =
    ap (λ (n : ℕ). take n text)
    (length-take-le (position_or_len is_space text) text (prefix_len-le-length (λ b. not (is_space b)) text))

text_is : (text : List ℕ) (obs : Obs) → text_read text ≡ Ok obs → Tail [] text obs
unfolding text_read
text_is text obs e =
    let w = went (or_miss (miss expected.Observation text) (word_read (first_word text))) _ obs e in
    let t = tail_is w.part (drop (length (first_word text)) text) obs w.on in
    let word : first_word text ≡ word_text w.part = word_is_text (first_word text) w.part (found _ _ _ w.cut) in
    record {
      is_one = t.is_one;
      printed = sym (take-append-drop (length (first_word text)) text)
          ∙ ap (λ (l : List ℕ). l ++ drop (length (first_word text)) text) (front_word text ∙ word) ∙ t.printed;
    }

-- what is read of a line is what it says
pub line_says : (line : List ℕ) (obs : Obs) → line_read line ≡ Ok obs → Says line obs
unfolding line_read
line_says line obs e =
    let w = went (word_cut (codes "  ") expected.Observation line) _ obs e in
    let t = text_is w.part obs w.on in
    record {
      is_one = t.is_one;
      printed = word_is (codes "  ") expected.Observation line w.part w.cut ∙ ap (λ (l : List ℕ). codes "  " ++ l) t.printed;
    }
