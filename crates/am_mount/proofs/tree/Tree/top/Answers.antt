use Rattle.std.proofs.Common.{◌≡◌, ℕ, List, Option, sym, ap, subst, ◌∙◌}
use Rattle.std.specs.Prelude.{filter}
use Rattle.std.specs.Option.{option_copied}
use Rattle.am_names.specs.{bucket, names_of, text_of, MountRow}
use Rattle.am_mount.specs.{is_child_in, stands_at, IsRising, mounts_where, last_of, top_of}
use Rattle.am_mount.specs.declared.family.Family.{Family}
use Rattle.am_mount.specs.Families.{placed_found}
use Rattle.am_mount.proofs.IndexLemmas.{top_in_bucket}
use Rattle.am_mount.proofs.RowLemmas.{IsTopOf, top_is, some_greatest, none_free}
use Rattle.am_mount.proofs.tree.Tree.top.Goals as goal

pub returns-clause-exact : goal.returns-clause-exact
returns-clause-exact c =
    let rows = c.self.inside.rows.rows in
    let place = names_of c.args.place.now in
    let mount = c.args.mount in
    let mounts = placed_found (option_copied c.family-family.result) c.bucket.result in
    let own : mounts ≡ mounts_where (is_child_in mount (bucket (text_of place))) rows =
    ap (λ (o : Option Family). placed_found o c.bucket.result) c.family-family.ensures ∙ c.self.invariant.indexed.placed c.mount.inside.0 c.bucket.result ∙
    ap (λ (n : ℕ). mounts_where (is_child_in n c.bucket.result) rows) c.mount.view_is ∙
    ap (λ (b : ℕ). mounts_where (is_child_in mount b) rows) (c.bucket.ensures ∙ ap bucket c.requires.spelled) in
    let top : c.last_in.result ≡ top_of rows mount place =
    c.last_in.ensures ∙
    ap (λ (xs : List MountRow). last_of (filter (λ m. stands_at xs mount place m) mounts)) c.as_slice.ensures.value ∙
    top_in_bucket rows c.self.invariant.rising mount place mounts own in
    let exact : c.last_in.result ≡ top_of c.args.self.now mount place =
    top ∙ ap (λ (xs : List MountRow). top_of xs mount place) c.self.view_is in
    exact

pub returns-clause-greatest : goal.returns-clause-greatest
returns-clause-greatest c =
    let rows = c.self.inside.rows.rows in
    let place = names_of c.args.place.now in
    let mount = c.args.mount in
    let mounts = placed_found (option_copied c.family-family.result) c.bucket.result in
    let own : mounts ≡ mounts_where (is_child_in mount (bucket (text_of place))) rows =
    ap (λ (o : Option Family). placed_found o c.bucket.result) c.family-family.ensures ∙ c.self.invariant.indexed.placed c.mount.inside.0 c.bucket.result ∙
    ap (λ (n : ℕ). mounts_where (is_child_in n c.bucket.result) rows) c.mount.view_is ∙
    ap (λ (b : ℕ). mounts_where (is_child_in mount b) rows) (c.bucket.ensures ∙ ap bucket c.requires.spelled) in
    let top : c.last_in.result ≡ top_of rows mount place =
    c.last_in.ensures ∙
    ap (λ (xs : List MountRow). last_of (filter (λ m. stands_at xs mount place m) mounts)) c.as_slice.ensures.value ∙
    top_in_bucket rows c.self.invariant.rising mount place mounts own in
    let exact : c.last_in.result ≡ top_of c.args.self.now mount place =
    top ∙ ap (λ (xs : List MountRow). top_of xs mount place) c.self.view_is in
    let rises : IsRising c.args.self.now = subst (λ (xs : List MountRow). IsRising xs) c.self.view_is c.self.invariant.rising in
    let is : IsTopOf c.args.self.now mount place c.last_in.result =
    subst (λ (o : Option ℕ). IsTopOf c.args.self.now mount place o) (sym exact) (top_is c.args.self.now rises mount place) in
    some_greatest c.args.self.now mount place c.last_in.result is

pub returns-clause-free : goal.returns-clause-free
returns-clause-free c =
    let rows = c.self.inside.rows.rows in
    let place = names_of c.args.place.now in
    let mount = c.args.mount in
    let mounts = placed_found (option_copied c.family-family.result) c.bucket.result in
    let own : mounts ≡ mounts_where (is_child_in mount (bucket (text_of place))) rows =
    ap (λ (o : Option Family). placed_found o c.bucket.result) c.family-family.ensures ∙ c.self.invariant.indexed.placed c.mount.inside.0 c.bucket.result ∙
    ap (λ (n : ℕ). mounts_where (is_child_in n c.bucket.result) rows) c.mount.view_is ∙
    ap (λ (b : ℕ). mounts_where (is_child_in mount b) rows) (c.bucket.ensures ∙ ap bucket c.requires.spelled) in
    let top : c.last_in.result ≡ top_of rows mount place =
    c.last_in.ensures ∙
    ap (λ (xs : List MountRow). last_of (filter (λ m. stands_at xs mount place m) mounts)) c.as_slice.ensures.value ∙
    top_in_bucket rows c.self.invariant.rising mount place mounts own in
    let exact : c.last_in.result ≡ top_of c.args.self.now mount place =
    top ∙ ap (λ (xs : List MountRow). top_of xs mount place) c.self.view_is in
    let rises : IsRising c.args.self.now = subst (λ (xs : List MountRow). IsRising xs) c.self.view_is c.self.invariant.rising in
    let is : IsTopOf c.args.self.now mount place c.last_in.result =
    subst (λ (o : Option ℕ). IsTopOf c.args.self.now mount place o) (sym exact) (top_is c.args.self.now rises mount place) in
    none_free c.args.self.now mount place c.last_in.result is
