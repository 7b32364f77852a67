-- A command with one more, and the number of an option.
use Rattle.std.proofs.Common.{◌≡◌, ◌≤◌, ℕ, Bool, false, List, Option, None, Some, Result, Ok, Err, refl, sym, ap, ap₂, ◌∙◌, subst, arith, option_map}
use Rattle.clap.proofs.WalkLemmas.{first_value-rows, one_text-rows}
use Rattle.clap.specs.declared.builder.command.Command.{Command}
use Rattle.clap.specs.declared.builder.command.Command.TheViews.{out-Command}
use Rattle.clap.specs.declared.parser.matches.Found.{Found}
use Rattle.clap.specs.Words.{AddsSubcommand, App, ReadsOne, Row, Text, first_of, first_value, one_of, one_text, rows_of, with_subcommand}
use Rattle.std.specs.Str.Parse.{ParsesUnsigned, digits_value, without_leading_plus}
use Rattle.am_cli.specs.{IsCommand, IsNumber}
use Rattle.am_cli.specs.Args.{IsNumberUpTo}
use Rattle.am_cli.specs.Choices.{prefix_of}
use Rattle.am_cli.specs.CommandLine.{IsNumberIn, flagged, helped}

-- a command has one more
pub adds : (old sub new : Command) (whole part : App) → IsCommand whole old → IsCommand part sub → AddsSubcommand old sub new → IsCommand (with_subcommand whole part.top) new
adds old sub new whole part is_old is_sub added = record {
  shape = added.shape is_sub.local ∙ ap₂ with_subcommand is_old.shape (ap (λ (a : App). a.top) is_sub.shape);
  local = rw (is_old.local, is_sub.local) at added.globals;
}

-- the number that is read of an option is that of its text
pub number_is : (E : Type 0) (gives : List ℕ → Result ℕ E → Type 0) (found : Found) (id : Text) (read : Option ℕ) (number : ℕ) → ((t : List ℕ) (x : Result ℕ E) → gives t x → ParsesUnsigned 32 10 t x) → (one_text found id ≡ None → read ≡ None) → ((t : List ℕ) → one_text found id ≡ Some t → ReadsOne gives t read) → read ≡ Some number → IsNumber (rows_of found) id number
number_is E gives found id read number parses none some is = go (one_text found id) refl
  where
    go : (text : Option Text) → one_text found id ≡ text → IsNumber (rows_of found) id number
    go None e = absurd (let no : read ≡ None = none e in cc)
    go (Some t) e =
        let parsed = parses t (Ok number) (subst (λ (r : Option ℕ). ReadsOne gives t r) is (some t e)) in record {
          text = t;
          given = sym (one_text-rows found id) ∙ e;
          digits = parsed.0.0;
          value = parsed.1;
        }

-- where none is read, the text of the option has no number of 32 bits
pub no_number : (E : Type 0) (gives : List ℕ → Result ℕ E → Type 0) (found : Found) (id : Text) (read : Option ℕ) → ((t : List ℕ) (x : Result ℕ E) → gives t x → ParsesUnsigned 32 10 t x) → ((t : List ℕ) → one_text found id ≡ Some t → ReadsOne gives t read) → read ≡ None → (number : ℕ) → IsNumber (rows_of found) id number → number ≤ 4294967295 → ⊥
no_number E gives found id read parses some none number is fits =
    let there : one_text found id ≡ Some is.text = one_text-rows found id ∙ is.given in
    let no = subst (λ (r : Option ℕ). ReadsOne gives is.text r) none (some is.text there) in
    parses is.text (Err no.0) no.1 (is.digits, omega (arith, is.value))

-- an option has one number
pub one_number : (rows : List Row) (id : Text) (number other : ℕ) → IsNumber rows id number → IsNumber rows id other → number ≡ other
one_number rows id number other is also =
    let there : Some is.text ≡ Some also.text = sym is.given ∙ also.given in
    let same : is.text ≡ also.text = cc in
    is.value ∙ ap (λ (t : Text). digits_value 10 (without_leading_plus t)) same ∙ sym also.value

-- an option that isn't there has no text
pub none_is : (found : Found) (id : Text) → first_value found id ≡ None → first_of id (rows_of found) ≡ None
none_is found id e = sym (first_value-rows found id) ∙ e

-- an option that is there, and has no number of 32 bits, has no number that may be asked for
pub no_number_in : (found : Found) (id : Text) → (first_value found id ≡ None → ⊥) → ((number : ℕ) → IsNumber (rows_of found) id number → number ≤ 4294967295 → ⊥) → (number : Option ℕ) → IsNumberIn (rows_of found) id number → IsNumberUpTo 4294967295 number → ⊥
no_number_in found id there none None is fits = there (first_value-rows found id ∙ is)
no_number_in found id there none (Some number) is fits = none number is fits

-- what `help` is asked of, by the word that is read
pub helped_is : (found : Found) (id : Text) (read : Option Text) → read ≡ first_value found id → helped (first_of id (rows_of found)) ≡ helped read
helped_is found id read e = ap helped (sym (e ∙ first_value-rows found id))

-- whether an option that has no value stands there, by the word that is read
pub flagged_is : (found : Found) (id : Text) (read : Option Text) → read ≡ first_value found id → flagged (first_of id (rows_of found)) ≡ flagged read
flagged_is found id read e = ap flagged (sym (e ∙ first_value-rows found id))

-- which choices a word names, by the word that is read
pub prefix_is : (found : Found) (id : Text) (read : Option Text) → read ≡ first_value found id → prefix_of (first_of id (rows_of found)) ≡ prefix_of read
prefix_is found id read e = ap prefix_of (sym (e ∙ first_value-rows found id))
