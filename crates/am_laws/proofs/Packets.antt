-- Packets and triggers, and the tests that tell them apart.
use Rattle.std.proofs.Common.{◌≡◌, ℕ, true, List, refl, ap, subst, ◌∙◌, arith}
use Rattle.std.specs.Prelude.{◌==◌, ◌&&◌}
use Rattle.std.specs.Str.{bytes_eq}
use Rattle.std.proofs.lemmas.Slice.Eq.{bytes_eq-Decides}
use Rattle.std.proofs.lemmas.Bool.Decides.{nat_tests}
use Rattle.am_names.specs.{same_trigger, TokenKind}
use Rattle.am_names.specs.declared.trigger.Trigger.{Trigger}
use Rattle.am_names.specs.declared.row.TokenKind.TheVariants.{Missing, Expire}
use Rattle.am_names.proofs.SameTriggers.{equal_by_same_trigger, same_trigger_itself}
use Rattle.am_names.proofs.Basics.{both_of_and, and_of_both, equal_by_test}
use Rattle.am_wire.specs.{kind_number, token_kind, Packet}
use Rattle.am_wire.specs.declared.packet_type.PacketType.{PacketType}
use Rattle.am_wire.proofs.PacketTypeLemmas.{kind_number_one}
use Rattle.am_laws.specs.{trigger_of, is_expire, expires, is_same_packet, AsksToExpire}

-- ---- what a packet asks for

expire_is : (k : TokenKind) → is_expire k ≡ true → k ≡ Expire
expire_is Missing h = absurd cc
expire_is Expire h = refl

pub expires_true : (trigger : Trigger) (packet : Packet) → AsksToExpire packet trigger → expires trigger packet ≡ true
expires_true trigger packet h =
    and_of_both _ _ (ap is_expire h.asks) (subst (λ (t : Trigger). same_trigger (trigger_of packet) t ≡ true) h.is_its (same_trigger_itself (trigger_of packet)))

pub expires_from_test : (trigger : Trigger) (packet : Packet) → expires trigger packet ≡ true → AsksToExpire packet trigger
expires_from_test trigger packet h =
    let both = both_of_and (is_expire (token_kind packet.kind)) (same_trigger (trigger_of packet) trigger) h in
    record { asks = expire_is (token_kind packet.kind) both.0; is_its = equal_by_same_trigger (trigger_of packet) trigger both.1 }

-- ---- packets

abbrev made : PacketType → ℕ → ℕ → ℕ → ℕ → ℕ → ℕ → ℕ → List ℕ → Packet
made kind token dev ino uid gid pid tgid name =
    record { kind = kind; token = token; dev = dev; ino = ino; uid = uid; gid = gid; pid = pid; tgid = tgid; name = name }

pub packet_is : (p q : Packet) → is_same_packet p q ≡ true → p ≡ q
packet_is p q h =
    let k = kind_number p.kind == kind_number q.kind in
    let t = p.token == q.token in
    let d = p.dev == q.dev in
    let i = p.ino == q.ino in
    let u = p.uid == q.uid in
    let g = p.gid == q.gid in
    let n = p.pid == q.pid in
    let m = p.tgid == q.tgid in
    let by_name = both_of_and (k && t && d && i && u && g && n && m) (bytes_eq p.name q.name) h in
    let by_tgid = both_of_and (k && t && d && i && u && g && n) m by_name.0 in
    let by_pid = both_of_and (k && t && d && i && u && g) n by_tgid.0 in
    let by_gid = both_of_and (k && t && d && i && u) g by_pid.0 in
    let by_uid = both_of_and (k && t && d && i) u by_gid.0 in
    let by_ino = both_of_and (k && t && d) i by_uid.0 in
    let by_dev = both_of_and (k && t) d by_ino.0 in
    let by_token = both_of_and k t by_dev.0 in
    let kind : p.kind ≡ q.kind = kind_number_one p.kind q.kind (equal_by_test (kind_number p.kind) (kind_number q.kind) by_token.0) in
    ap (λ (x : PacketType). made x p.token p.dev p.ino p.uid p.gid p.pid p.tgid p.name) kind
    ∙ ap (λ (x : ℕ). made q.kind x p.dev p.ino p.uid p.gid p.pid p.tgid p.name) (equal_by_test p.token q.token by_token.1)
    ∙ ap (λ (x : ℕ). made q.kind q.token x p.ino p.uid p.gid p.pid p.tgid p.name) (equal_by_test p.dev q.dev by_dev.1)
    ∙ ap (λ (x : ℕ). made q.kind q.token q.dev x p.uid p.gid p.pid p.tgid p.name) (equal_by_test p.ino q.ino by_ino.1)
    ∙ ap (λ (x : ℕ). made q.kind q.token q.dev q.ino x p.gid p.pid p.tgid p.name) (equal_by_test p.uid q.uid by_uid.1)
    ∙ ap (λ (x : ℕ). made q.kind q.token q.dev q.ino q.uid x p.pid p.tgid p.name) (equal_by_test p.gid q.gid by_gid.1)
    ∙ ap (λ (x : ℕ). made q.kind q.token q.dev q.ino q.uid q.gid x p.tgid p.name) (equal_by_test p.pid q.pid by_pid.1)
    ∙ ap (λ (x : ℕ). made q.kind q.token q.dev q.ino q.uid q.gid q.pid x p.name) (equal_by_test p.tgid q.tgid by_tgid.1)
    ∙ ap (λ (x : List ℕ). made q.kind q.token q.dev q.ino q.uid q.gid q.pid q.tgid x) ((bytes_eq-Decides p.name q.name).0 by_name.1)

pub packet_same : (p : Packet) → is_same_packet p p ≡ true
packet_same p = grind (arith, nat_tests, bytes_eq-Decides)
