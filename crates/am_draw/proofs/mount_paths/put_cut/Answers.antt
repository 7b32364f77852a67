use Rattle.std.proofs.Common.{◌≡◌, ◌<◌, ◌-◌, ℕ, List, ◌++◌, codes, length, option_copied, ap, ◌∙◌, subst}
use Rattle.am_script.specs.{Puts}
use Rattle.am_script.proofs.Pieces.{puts_three}
use Rattle.am_draw.specs.{between, path_to, tree_rows, xml}
use Rattle.am_draw.proofs.MountPathLemmas.{words_cut}
use Rattle.am_draw.proofs.mount_paths.put_cut.Goals as goal

pub returns-then-half-last : goal.returns-then-half-last
returns-then-half-last g c =
    let contents = g.W.Write.contents in
    let path = path_to 16 (tree_rows c.args.rows.now) (option_copied c.args.point) in
    let half = c.args.half in
    let middle : c.from-half.result ≡ half = c.from-half.ensures in
    let last : c.saturating_sub-last.result ≡ length path - half =
    c.saturating_sub-last.ensures ∙ ap (λ (n : ℕ). n - c.from-half.result) c.requires ∙ ap (λ (n : ℕ). length path - n) middle in
    let short : half < length path - half =
    subst (λ (n : ℕ). half < n) last (subst (λ (n : ℕ). n < c.saturating_sub-last.result) middle c.if-half-last.true) in
    subst (λ (x : List ℕ). Puts c.args.output.now c.put_between-then-half-last.new.output x (contents c.args.writer.now) (contents c.put_between-then-half-last.new.writer))
    (ap (λ (n : ℕ). xml (between 0 n path) ++ (codes "..." ++ xml (between c.saturating_sub-last.result c.args.long path))) middle
    ∙ ap (λ (n : ℕ). xml (between 0 half path) ++ (codes "..." ++ xml (between n c.args.long path))) last
    ∙ ap (λ (n : ℕ). xml (between 0 half path) ++ (codes "..." ++ xml (between (length path - half) n path))) c.requires
    ∙ words_cut half path short)
    (puts_three _ _ _ _ _ _ _ _ _ _ _ c.put_between.ensures c.put_word.ensures c.put_between-then-half-last.ensures)
