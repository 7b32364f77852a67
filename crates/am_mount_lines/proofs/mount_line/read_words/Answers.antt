use Rattle.std.proofs.Common.{◌≡◌, ℕ, List, map, drop, refl, sym, ap, subst, ◌∙◌}
use Rattle.std.proofs.lemmas.List.{drop-map}
use Rattle.am_mount_lines.specs.Lines.{number_read, path_told, IsTail}
use Rattle.am_mount_lines.proofs.Tails.{whole_line}
use Rattle.am_mount_lines.proofs.mount_line.read_words.Goals as goal

pub returns-clause-ok : goal.returns-clause-ok
returns-clause-ok c =
    let behind : map (λ word. word.now) c.behind_six.result.now ≡ drop 6 (map (λ word. word.now) c.args.words.now) =
    rw c.behind_six.ensures (sym (drop-map (λ word. word.now) 6 c.args.words.now)) in
    let tail = subst (λ (ws : List (List ℕ)). IsTail ws c.in_ok-tail.tail) behind c.in_ok-tail.ensures.ok in
    record {
      in_space = refl;
      number = ap number_read (sym c.word_at.ensures) ∙ sym c.in-Some.ensures;
      parent = ap number_read (sym c.word_at-2.ensures) ∙ sym c.in-Some-read_u64.ensures;
      shown = rw (← c.word_at-4.ensures, ← c.word_at-5.ensures) c.in_ok-shown.ensures;
      path = ap path_told (sym c.word_at-3.ensures) ∙ sym c.in_ok-path.ensures ∙ c.in-Some-2.is;
      group = tail.group;
      master = tail.master;
      unbindable = tail.unbindable;
      trap = tail.trap;
    }

pub returns-clause-whole : goal.returns-clause-whole
returns-clause-whole c =
    whole_line (λ word. word.now) c.args.words.now c.in-Some.number c.in-Some-read_u64.parent c.in-Some-2.path
    (ap number_read (sym c.word_at.ensures) ∙ sym c.in-Some.ensures)
    (ap number_read (sym c.word_at-2.ensures) ∙ sym c.in-Some-read_u64.ensures)
    (ap path_told (sym c.word_at-3.ensures) ∙ sym c.in_ok-path.ensures ∙ c.in-Some-2.is)
    c.if-words-lt6.false
    (rw c.behind_six.ensures at c.in_ok-tail.ensures.whole)
