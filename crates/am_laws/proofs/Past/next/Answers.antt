use Rattle.std.proofs.Common.{◌≡◌, ℕ, [], ◌∷◌, ◌++◌, true, sym, subst}
use Rattle.std.proofs.lemmas.List.{take_rest}
use Rattle.am_laws.specs.{is_lawful_at, Remembers}
use Rattle.am_laws.proofs.Decided.{at_from_test}
use Rattle.am_laws.proofs.Grows.{judged_lately, remembers_grows}
use Rattle.am_laws.proofs.Past.next.Goals as goal

pub returns-then-not-is_lawful_lately : goal.returns-then-not-is_lawful_lately
returns-then-not-is_lawful_lately c =
    let all = take_rest c.args.before.now c.settled_at-settled.result in
    let same = judged_lately c.settled_at-settled.result c.args.self.settled c.args.self.greatest c.args.before.now c.args.o.now c.args.rest.now c.requires c.settled_at-settled.ensures in
    let told = c.is_lawful_lately.ensures in
    let not_so = c.if-not-is_lawful_lately.true in
    cc

pub returns : goal.returns
returns c =
    let all = take_rest c.args.before.now c.settled_at-settled.result in
    let same = judged_lately c.settled_at-settled.result c.args.self.settled c.args.self.greatest c.args.before.now c.args.o.now c.args.rest.now c.requires c.settled_at-settled.ensures in
    let told = c.is_lawful_lately.ensures in
    let is_so = c.if-not-is_lawful_lately.false in
    let is : is_lawful_at c.args.before.now c.args.o.now c.args.rest.now ≡ true = cc in
    let grown = remembers_grows c.settled_at-settled.result c.args.self.settled c.args.self.greatest c.args.before.now c.args.o.now c.args.rest.now c.requires c.settled_at-settled.ensures (at_from_test c.args.before.now c.args.o.now c.args.rest.now is) in
    (is, subst (λ (g : ℕ). Remembers c.settled_at-settled.result g (c.args.before.now ++ c.args.o.now ∷ [])) (sym c.greatest_with.ensures) grown)
