use Rattle.std.proofs.Common.{◌≡◌, ℕ, ◌==◌, true, false, cond, List, [], ◌∷◌, ◌++◌, sym, ap, subst, ◌∙◌, arith}
use Rattle.std.specs.Prelude.{drop, find, length, vec_len}
use Rattle.std.proofs.lemmas.List.{drop-append-le}
use Rattle.am_job.specs.{JobState}
use Rattle.am_daemon.specs.{JobRows, IsSingle, has_turn, is_among, tokens_of}
use Rattle.am_daemon.proofs.JobTableLemmas.{among_pushed, single_pushed, fresh_token, tokens_pushed}
use Rattle.am_daemon.proofs.job_table.JobTable.push_reserved.Goals as goal

pub invariant_of-self : goal.invariant_of-self
invariant_of-self c =
    let row : JobState = c.args.job in
    let rows : List JobState = drop c.self.inside.over c.self.inside.rows.items in
    let none : is_among row.token (tokens_of rows) ≡ false = fresh_token row.token rows (ap (λ (t : JobRows). find (λ (r : JobState). r.token == row.token) t.rows) c.self.view_is ∙ c.requires.fresh) in
    let long : length c.self.inside.rows.items ≡ vec_len c.self.inside.rows = ap (λ (all : List JobState). length all) (sym c.as_slice-rows.ensures.value) ∙ c.as_slice-rows.ensures.len in
    let items : drop c.self.inside.over c.push_reserved.new.self.items ≡ rows ++ row ∷ [] =
    ap (drop c.self.inside.over) c.push_reserved.ensures.items ∙ drop-append-le c.self.inside.over c.self.inside.rows.items (row ∷ []) (omega (arith, c.self.invariant.within, long)) in
    let tokens : tokens_of (drop c.self.inside.over c.push_reserved.new.self.items) ≡ tokens_of rows ++ row.token ∷ [] = ap tokens_of items ∙ tokens_pushed rows row in
    record {
      within = omega (arith, c.self.invariant.within, c.push_reserved.ensures.len);
      single = subst IsSingle (sym tokens) (single_pushed row.token (tokens_of rows) c.self.invariant.single none);
      known = λ q. c.add_turn.ensures q
          ∙ ap (λ (n : ℕ). cond (n == q) true (has_turn c.self.inside.turns.entries q)) c.job.ensures
          ∙ ap (cond (row.token == q) true) (c.self.invariant.known q)
          ∙ sym (among_pushed row.token q (tokens_of rows))
          ∙ ap (is_among q) (sym tokens);
    }
