use Rattle.std.proofs.Common.{◌≡◌, ◌++◌, ℕ, List, take, ap, ◌∙◌, append_assoc, arith}
use Rattle.std.specs.Prelude.{filter, is_none}
use Rattle.std.proofs.lemmas.List.{take_all}
use Rattle.am_names.specs.PeerGroups.{PeerGroups}
use Rattle.am_group.specs.{group_of, has_master, is_in, mounts_where}
use Rattle.am_group.proofs.groups.Groups.add_home.Goals as goal

pub returns : goal.returns
returns c =
    let s = c.args.self.now in
    let g = c.args.group in
    let before = c.args.found.now.items in
    let listed = c.list-slave-items.result.now in
    let lone : List ℕ → List ℕ = λ xs. filter (λ m. is_none (group_of s m)) xs in
    let members : c.list.result.now ≡ mounts_where (is_in g) s.members =
    c.list.ensures ∙ c.self.invariant.indexed.0.members g ∙
    ap (λ (x : PeerGroups). mounts_where (is_in g) x.members) c.self.view_is in
    let slaves : listed ≡ mounts_where (has_master g) s.members =
    c.list-slave-items.ensures ∙ c.self.invariant.indexed.0.slaves g ∙
    ap (λ (x : PeerGroups). mounts_where (has_master g) x.members) c.self.view_is in
    let whole : take c.loop-slave.slave-index listed ≡ listed =
    take_all c.loop-slave.slave-index listed (omega (arith, c.loop-slave-test.false)) in
    c.loop-slave.invariant ∙
    ap (λ (xs : List ℕ). c.extend_from_slice.new.self.items ++ lone xs) (whole ∙ slaves) ∙
    ap (λ (xs : List ℕ). xs ++ lone (mounts_where (has_master g) s.members))
    (c.in_ok-extend_from_slice.ensures.items ∙ ap (λ (xs : List ℕ). before ++ xs) members) ∙
    append_assoc before (mounts_where (is_in g) s.members) (lone (mounts_where (has_master g) s.members))
