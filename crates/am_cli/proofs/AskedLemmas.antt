-- What words ask for, and why they ask for nothing.
use Rattle.std.proofs.Common.{◌≡◌, ◌≤◌, ℕ, true, List, [], ◌∷◌, Option, None, Some, Result, Ok, Err, IfErr, refl, sym, subst, ◌∙◌, ◌⊎◌, inl, inr, codes}
use Rattle.clap.proofs.OnLiterals.{clap_on_literals}
use Rattle.clap.specs.Words.{IsAmong, Row, Text, fault_of, first_of, is_simple_and_free, subcommand_of}
use Rattle.clap.specs.declared.error.kind.ErrorKind.{ErrorKind}
use Rattle.clap.specs.declared.error.kind.ErrorKind.TheVariants as answers
use Rattle.am_cli.specs.Args.{IsInRange, IsNumberUpTo, IsUpTo, RefusedFor}
use Rattle.am_cli.specs.Choices.{prefix_of}
use Rattle.am_cli.specs.CommandLine.{AnswersBy, Asks, AsksFor, AsksForNone, AsksNothing, IsAsked, IsNumber, IsNumberIn, IsRefused, IsRefusedBy, cli, flagged, helped}
use Rattle.am_cli.specs.declared.args.Args.{Args}
use Rattle.am_cli.specs.declared.args.Args.TheVariants.{Trace, Draw, World, Explore, Threads, Help, Version}
use Rattle.am_cli.specs.declared.args.ArgsFault.{ArgsFault}
use Rattle.am_cli.specs.declared.args.ArgsFault.TheVariants.{NoMemory, Usage}
use Rattle.am_cli.specs.declared.topics.Topic.{Topic}
use Rattle.am_cli.specs.declared.topics.Topic.TheVariants as topics

-- where it is an error, whatever that is
pub in_any_err : {T E : Type 0} (P : Type 0) (r : Result T E) → P → IfErr r (λ _. P)
in_any_err P (Ok value) p = tt
in_any_err P (Err e) p = p

-- where it is an error, it is refused for that, whichever it is
pub refused_so : (why : Type 0) (fault : ArgsFault) → why → RefusedFor why fault
refused_so why NoMemory p = tt
refused_so why Usage p = p

pub in_any_fault : {T : Type 0} (why : Type 0) (r : Result T ArgsFault) → why → IfErr r (RefusedFor why)
in_any_fault why (Ok value) p = tt
in_any_fault why (Err fault) p = refused_so why fault p

-- what is refused for one reason is for another one that follows
pub refused_then : {why other : Type 0} (fault : ArgsFault) → (why → other) → RefusedFor why fault → RefusedFor other fault
refused_then NoMemory follows p = tt
refused_then Usage follows p = follows p

-- ---- a command with an option that is out of its range asks for nothing

pub no_draw : (rows : List Row) → ((first last : ℕ) → IsNumber rows (codes "from") first → IsNumber rows (codes "to") last → IsInRange (Draw first last) → ⊥) → AsksForNone topics.Draw rows
no_draw rows refuses (Draw first last) asks range = refuses first last asks.0 asks.1 range
no_draw rows refuses _ asks range = absurd asks

pub no_world : (rows : List Row) → ((namespace : Option ℕ) → IsNumberIn rows (codes "namespace") namespace → IsNumberUpTo 4294967295 namespace → ⊥) → AsksForNone topics.World rows
no_world rows refuses (World namespace) asks range = refuses namespace asks range
no_world rows refuses _ asks range = absurd asks

pub no_explore : (rows : List Row) → ((most : ℕ) → IsNumber rows (codes "most") most → IsUpTo 4294967295 most → ⊥) → AsksForNone topics.Explore rows
no_explore rows refuses (Explore most prefix) asks range = refuses most asks.0 range
no_explore rows refuses _ asks range = absurd asks

pub no_prefix : (rows : List Row) → prefix_of (first_of (codes "prefix") rows) ≡ None → AsksForNone topics.Explore rows
no_prefix rows refuses (Explore most prefix) asks range = absurd (let other : Some prefix.items ≡ None = sym asks.1 ∙ refuses in cc)
no_prefix rows refuses _ asks range = absurd asks

pub no_threads : (rows : List Row) → ((walkers workers rounds : ℕ) → IsNumber rows (codes "walkers") walkers → IsNumber rows (codes "workers") workers → IsNumber rows (codes "rounds") rounds → IsInRange (Threads walkers workers rounds) → ⊥) → AsksForNone topics.Threads rows
no_threads rows refuses (Threads walkers workers rounds) asks range = refuses walkers workers rounds asks.0 asks.1 asks.2 range
no_threads rows refuses _ asks range = absurd asks

pub no_trace : (rows : List Row) → flagged (first_of (codes "plain") rows) ≡ None → AsksForNone topics.Trace rows
no_trace rows refuses (Trace plain) asks range = absurd (let other : Some plain ≡ None = sym asks ∙ refuses in cc)
no_trace rows refuses _ asks range = absurd asks

pub no_help : (rows : List Row) → helped (first_of (codes "command") rows) ≡ None → AsksForNone topics.Help rows
no_help rows refuses (Help topic) asks range = absurd (let other : Some topic ≡ None = sym asks ∙ refuses in cc)
no_help rows refuses _ asks range = absurd asks

-- ---- by what `clap` answers

pub is_free : is_simple_and_free cli ≡ true
is_free = refl

-- words that `clap` takes ask for what their command does, or are refused
pub asked_taken : (words : List Text) (args : Args) → fault_of cli words ≡ [] → Asks (subcommand_of cli words) args → IsAsked words args
asked_taken words args free asks = inl (free, asks)

pub refused_taken : (words : List Text) (fault : ArgsFault) → fault_of cli words ≡ [] → RefusedFor (AsksNothing (subcommand_of cli words)) fault → IsRefused words fault
refused_taken words NoMemory free none = tt
refused_taken words Usage free none = inr (free, none)

-- and words that it answers in another way
pub asked_answered : (words : List Text) (answer : ErrorKind) (args : Args) → (answer ≡ answers.OutOfMemory) ⊎ IsAmong answer (fault_of cli words) → AnswersBy answer words args → IsAsked words args
asked_answered words answer args (inr among) by = inr (answer, among, by)
asked_answered words answer (Help topic) (inl full) by = absurd (let help : answer ≡ answers.DisplayHelp = by.0 in cc)
asked_answered words answer Version (inl full) by = absurd (let version : answer ≡ answers.DisplayVersion = by in cc)
asked_answered words answer _ (inl full) by = absurd by

pub refused_answered : (words : List Text) (answer : ErrorKind) (fault : ArgsFault) → (answer ≡ answers.OutOfMemory) ⊎ IsAmong answer (fault_of cli words) → IsRefusedBy answer fault → IsRefused words fault
refused_answered words answer NoMemory kinds by = tt
refused_answered words answer Usage (inl full) by = absurd ((by refl).2 full)
refused_answered words answer Usage (inr among) by = inl (answer, among, by refl)

-- ---- no words

no_words : fault_of cli [] ≡ answers.MissingSubcommand ∷ []
unfolding clap_on_literals
no_words = refl

pub none_refused : (fault : ArgsFault) → IsRefused [] fault
none_refused NoMemory = tt
none_refused Usage = inl (answers.MissingSubcommand, subst (λ (kinds : List ErrorKind). IsAmong answers.MissingSubcommand kinds) (sym no_words) (inl refl), ((λ e. cc), (λ e. cc), (λ e. cc)))
