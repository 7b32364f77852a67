-- Bytes are those of one packet at most, and what is written is read back.
use Rattle.std.proofs.Common.{◌≡◌, ℕ, ◌-◌, List, [], ◌++◌, length, take, drop, refl, sym, ap, ◌∙◌, subst, append_assoc, arith}
use Rattle.std.specs.Prelude.{Bool, ◌||◌, ◌==◌, IsTrue, replicate}
use Rattle.std.proofs.lemmas.List.{take_at, append-nil, length-append}
use Rattle.byteorder.specs.Numbers.{little_number-reads_back}
use Rattle.am_wire.specs.declared.head.Head.{Head}
use Rattle.am_wire.specs.declared.packet_type.PacketType.{PacketType}
use Rattle.am_wire.specs.{padded, IsHead, HasFittingNumbers, head_of, head_bytes, has_length, IsPacket, IsWritable, canonical}
use Rattle.am_wire.specs.Fields.{Fields}
use Rattle.am_wire.specs.Format.{word_at, long_at}
use Rattle.am_wire.proofs.PacketTypeLemmas.{kind_number_one}

abbrev saying : PacketType → ℕ → ℕ → ℕ → ℕ → ℕ → ℕ → ℕ → List ℕ → Fields
saying kind token dev ino uid gid pid tgid name = record { kind = kind; token = token; dev = dev; ino = ino; uid = uid; gid = gid; pid = pid; tgid = tgid; name = name }

-- packets that say the same in each field are the same
same_fields : {kind kind' : PacketType} {token token' dev dev' ino ino' uid uid' gid gid' pid pid' tgid tgid' : ℕ} {name name' : List ℕ} → kind ≡ kind' → token ≡ token' → dev ≡ dev' → ino ≡ ino' → uid ≡ uid' → gid ≡ gid' → pid ≡ pid' → tgid ≡ tgid' → name ≡ name' → saying kind token dev ino uid gid pid tgid name ≡ saying kind' token' dev' ino' uid' gid' pid' tgid' name'
same_fields kind token dev ino uid gid pid tgid name = rw (kind, token, dev, ino, uid, gid, pid, tgid, name) refl

-- bytes are those of one packet at most
pub one_packet : (p q : Fields) (bytes : List ℕ) → IsPacket p bytes → IsPacket q bytes → q ≡ p
one_packet p q bytes a b =
    same_fields (kind_number_one q.kind p.kind (sym b.kind ∙ a.kind)) (sym b.token ∙ a.token) (sym b.dev ∙ a.dev) (sym b.ino ∙ a.ino)
    (sym b.uid ∙ a.uid) (sym b.gid ∙ a.gid) (sym b.pid ∙ a.pid) (sym b.tgid ∙ a.tgid) (sym b.name ∙ a.name)

-- numbers that were written are read back
head_reads_back : (h : Head) (rest : List ℕ) → HasFittingNumbers h → IsHead (head_bytes h ++ rest) h
unfolding word_at long_at
head_reads_back h rest fits =
    let bytes : List ℕ = head_bytes h ++ rest in
    record {
      proto_version = little_number-reads_back 4 h.proto_version (drop 4 bytes) fits.proto_version;
      kind = little_number-reads_back 4 h.kind (drop 8 bytes) fits.kind;
      token = little_number-reads_back 4 h.token (drop 12 bytes) fits.token;
      dev = little_number-reads_back 4 h.dev (drop 16 bytes) fits.dev;
      ino = little_number-reads_back 8 h.ino (drop 24 bytes) fits.ino;
      uid = little_number-reads_back 4 h.uid (drop 28 bytes) fits.uid;
      gid = little_number-reads_back 4 h.gid (drop 32 bytes) fits.gid;
      pid = little_number-reads_back 4 h.pid (drop 36 bytes) fits.pid;
      tgid = little_number-reads_back 4 h.tgid (drop 40 bytes) fits.tgid;
      len = little_number-reads_back 4 h.len (drop 44 bytes) fits.len;
    }

-- the numbers, the name with zeros behind it, and what stands behind these
abbrev packet_bytes : Fields → List ℕ → List ℕ
packet_bytes p rest = head_bytes (head_of p) ++ (padded p.name ++ rest)

-- a packet that was written is read back, whatever stands behind the name's 256 bytes
packet_reads_back : (p : Fields) (rest : List ℕ) → HasFittingNumbers (head_of p) → IsWritable p → IsTrue (has_length (packet_bytes p rest)) → IsPacket p (packet_bytes p rest)
packet_reads_back p rest fits writable long =
    let bytes : List ℕ = packet_bytes p rest in
    let h = head_reads_back (head_of p) (padded p.name ++ rest) fits in
    let zeros : List ℕ = replicate (256 - length p.name) 0 in
    let name : take (length p.name) (padded p.name ++ rest) ≡ p.name = ap (take (length p.name)) (append_assoc p.name zeros rest) ∙ take_at p.name (zeros ++ rest) (length p.name) refl in
    record {
      long = long;
      proto_version = h.proto_version;
      kind = h.kind;
      token = h.token;
      dev = h.dev;
      ino = h.ino;
      uid = h.uid;
      gid = h.gid;
      pid = h.pid;
      tgid = h.tgid;
      len = h.len;
      name = ap (λ (n : ℕ). take n (drop 44 bytes)) h.len ∙ name;
      sized = writable.sized;
      named = writable.named;
    }

abbrev is_format_length : ℕ → Bool
is_format_length n = (n == 300) || (n == 304)

-- what was written is read back
pub canonical_reads_back : (p : Fields) (out : List ℕ) → out ≡ canonical p → length (padded p.name) ≡ 256 → HasFittingNumbers (head_of p) → IsWritable p → IsPacket p out
canonical_reads_back p out e long fits writable =
    let rest : List ℕ = replicate 4 0 in
    let whole : length (packet_bytes p rest) ≡ 304 = omega (arith, length-append (head_bytes (head_of p)) (padded p.name ++ rest), length-append (padded p.name) rest, long) in
    subst (IsPacket p) (sym e) (packet_reads_back p rest fits writable (subst (λ (n : ℕ). IsTrue (is_format_length n)) (sym whole) refl))

-- and so are its first 300 bytes
pub canonical_300_reads_back : (p : Fields) (out : List ℕ) → out ≡ canonical p → length (padded p.name) ≡ 256 → HasFittingNumbers (head_of p) → IsWritable p → IsPacket p (take 300 out)
canonical_300_reads_back p out e long fits writable =
    let head : List ℕ = head_bytes (head_of p) in
    let front : length (head ++ padded p.name) ≡ 300 = omega (arith, length-append head (padded p.name), long) in
    let whole : out ≡ (head ++ padded p.name) ++ replicate 4 0 = e ∙ sym (append_assoc head (padded p.name) (replicate 4 0)) in
    let cut : take 300 out ≡ head ++ padded p.name = ap (take 300) whole ∙ take_at (head ++ padded p.name) (replicate 4 0) 300 front in
    let nothing : packet_bytes p [] ≡ head ++ padded p.name = ap (λ (xs : List ℕ). head ++ xs) (append-nil (padded p.name)) in
    let back = packet_reads_back p [] fits writable (subst (λ (n : ℕ). IsTrue (is_format_length n)) (sym (ap length nothing ∙ front)) refl) in
    subst (IsPacket p) (nothing ∙ sym cut) back
