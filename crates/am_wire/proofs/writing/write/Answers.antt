use Rattle.std.proofs.Common.{◌≡◌, ◌+◌, ◌++◌, ◌∷◌, [], ◌∙◌, subst, ℕ, length, take, drop, refl, arith}
use Rattle.std.specs.Prelude.{List}
use Rattle.std.proofs.lemmas.List.{append-nil, length-append}
use Rattle.std.proofs.Math.ListN.{drop_of_length-le}
use Rattle.am_wire.specs.declared.head.Head.{Head}
use Rattle.am_wire.specs.{head_bytes, head_of, HasFittingNumbers, fields_of, padded}
use Rattle.am_names.proofs.Puts.{put_behind}
use Rattle.am_wire.proofs.FormatLemmas.{canonical_reads_back, canonical_300_reads_back}
use Rattle.am_wire.proofs.writing.write.Goals as goal

pub returns-clause-bytes : goal.returns-clause-bytes
returns-clause-bytes c =
    let out = c.args.out.now in
    let name = c.padded.result.now in
    let head : Head = head_of (fields_of c.args.packet.now) in
    let first : c.write_head.new.out ≡ head_bytes head ++ drop 44 out = subst (λ (h : Head). c.write_head.new.out ≡ head_bytes h ++ drop 44 out) c.head_of-head.ensures c.write_head.ensures.bytes in
    let long : length name ≡ 256 = c.padded.ensures.long in
    let w : c.write_bytes.new.out ≡ take 44 c.write_head.new.out ++ (name ++ drop (44 + 256) c.write_head.new.out) = subst (λ (n : ℕ). c.write_bytes.new.out ≡ take 44 c.write_head.new.out ++ (name ++ drop (44 + n) c.write_head.new.out)) long c.write_bytes.ensures in
    let second = put_behind 44 256 (head_bytes head) out c.write_head.new.out c.write_bytes.new.out name refl first w in
    let third = put_behind 300 4 (head_bytes head ++ name) out c.write_bytes.new.out c.write_bytes-2.new.out (0 ∷ 0 ∷ 0 ∷ 0 ∷ []) (omega (arith, length-append (head_bytes head) name)) second c.write_bytes-2.ensures in
    let nothing : drop 304 out ≡ [] = drop_of_length-le out {i = 304} (omega (arith, c.told-out)) in
    third ∙ rw (nothing, c.padded.ensures.bytes) (append-nil _)

pub returns-clause-whole : goal.returns-clause-whole
returns-clause-whole c =
    let p = fields_of c.args.packet.now in
    let long : length (padded p.name) ≡ 256 = subst (λ (name : List ℕ). length name ≡ 256) c.padded.ensures.bytes c.padded.ensures.long in
    let fits : HasFittingNumbers (head_of p) = subst HasFittingNumbers c.head_of-head.ensures c.write_head.ensures.fitting in
    canonical_reads_back p c.write_bytes-2.new.out (returns-clause-bytes c) long fits

pub returns-clause-cut : goal.returns-clause-cut
returns-clause-cut c =
    let p = fields_of c.args.packet.now in
    let long : length (padded p.name) ≡ 256 = subst (λ (name : List ℕ). length name ≡ 256) c.padded.ensures.bytes c.padded.ensures.long in
    let fits : HasFittingNumbers (head_of p) = subst HasFittingNumbers c.head_of-head.ensures c.write_head.ensures.fitting in
    canonical_300_reads_back p c.write_bytes-2.new.out (returns-clause-bytes c) long fits
