-- Each way in which the program ends.
use Rattle.std.proofs.Common.{◌≡◌, ℕ, Bool, List, [], Option, None, Some, refl, subst, ◌⊎◌, inl, inr, codes}
use Rattle.std.specs.Io.KnownBytes.{Appends}
use Rattle.std.specs.Prelude.{Vec}
use Rattle.std.specs.declared.alloc.Global.{Global}
use Rattle.am_mountinfo.specs.{ShowsInput, StopsShowing}
use Rattle.am_recall.specs.declared.recalled.Recalled.{Recalled}
use Rattle.am_runner.specs.{IsTally, Tally}
use Rattle.am_script.specs.{PlaysInput, StopsInput, ScriptFault, Summary, answers_alone}
use Rattle.am_cli.specs.{Exits, Played, Stopped, Traced, TraceStopped, Drawn, DrawStopped, Shown, ShowStopped, Judged}
use Rattle.am_cli.specs.{JudgeStopped, Served, ServeStopped, Explored, ExploreStopped, Imported, ImportStopped, Ran}
use Rattle.am_cli.specs.{Untold, NotRun, Helped, NotHelped, Versioned, NotVersioned, rounds_line, status_of_findings}
use Rattle.am_cli.specs.{status_of_verdict, style_of, SaysWhole}
use Rattle.am_cli.specs.Help.{help_text, version_line}
use Rattle.am_cli.specs.Telling.{import_told, judge_told, script_told, Tells, TellsExplore, TellsFault, word_told}
use Rattle.am_draw.specs.{DrawsInput, StopsDrawing}
use Rattle.am_findings.specs.{ExploresInput, StopsExploring, ExploreFault}
use Rattle.am_findings.specs.declared.verdict.Verdict.{Verdict as Findings}
use Rattle.am_import.specs.{ImportsInput, StopsImporting, ImportFault}
use Rattle.am_serve.specs.{ServesInput, StopsServing}
use Rattle.am_traces.specs.Judged.{JudgesInput, StopsJudging}
use Rattle.am_traces.specs.declared.verdict.JudgeFault.{JudgeFault}
use Rattle.am_traces.specs.declared.verdict.Verdict.{Verdict}
use Rattle.am_views.specs.{TraceStyle, traced}
use Rattle.am_cli.specs.declared.args.Args.TheVariants.{Script, Trace, Draw, World, Serve, Explore, Judge, Import}
use Rattle.am_cli.specs.declared.args.Args.TheVariants.{Threads, Help, Version}
use Rattle.am_cli.specs.declared.topics.Topic.{Topic}

pub ends_played : (recalled : Recalled) (input rest old new quiet : Option (List ℕ)) (summary : Summary) → PlaysInput answers_alone input rest old new summary → Exits Script recalled input rest old new quiet quiet 0
ends_played recalled input rest old new quiet summary plays = record { end = Played summary; asked_is = refl; status_is = refl; streams = (plays, refl) }

pub ends_stopped : (recalled : Recalled) (input rest old new quiet told : Option (List ℕ)) (fault : ScriptFault) → StopsInput answers_alone input rest old new fault → TellsFault recalled fault quiet told → Exits Script recalled input rest old new quiet told 1
ends_stopped recalled input rest old new quiet told fault stops tells = record { end = Stopped fault; asked_is = refl; status_is = refl; streams = (stops, tells) }

pub ends_traced : (recalled : Recalled) (plain : Bool) (style : TraceStyle) → style ≡ style_of plain → (input rest old new quiet : Option (List ℕ)) (summary : Summary) → PlaysInput (traced style) input rest old new summary → Exits (Trace plain) recalled input rest old new quiet quiet 0
ends_traced recalled plain style is input rest old new quiet summary traces = record { end = Traced plain summary; asked_is = refl; status_is = refl; streams = (subst (λ (s : TraceStyle). PlaysInput (traced s) input rest old new summary) is traces, refl) }

pub ends_trace_stopped : (recalled : Recalled) (plain : Bool) (style : TraceStyle) → style ≡ style_of plain → (input rest old new quiet told : Option (List ℕ)) (fault : ScriptFault) → StopsInput (traced style) input rest old new fault → TellsFault recalled fault quiet told → Exits (Trace plain) recalled input rest old new quiet told 1
ends_trace_stopped recalled plain style is input rest old new quiet told fault stops tells = record { end = TraceStopped plain fault; asked_is = refl; status_is = refl; streams = (subst (λ (s : TraceStyle). StopsInput (traced s) input rest old new fault) is stops, tells) }

pub ends_drawn : (recalled : Recalled) (first last from to : ℕ) → from ≡ first → to ≡ last → (input rest old new quiet : Option (List ℕ)) (summary : Summary) → DrawsInput from to input rest old new summary → Exits (Draw first last) recalled input rest old new quiet quiet 0
ends_drawn recalled first last from to e f input rest old new quiet summary draws = record { end = Drawn from to summary; asked_is = cc; status_is = refl; streams = (draws, refl) }

pub ends_draw_stopped : (recalled : Recalled) (first last from to : ℕ) → from ≡ first → to ≡ last → (input rest old new quiet told : Option (List ℕ)) (fault : ScriptFault) → StopsDrawing from to input rest old new fault → TellsFault recalled fault quiet told → Exits (Draw first last) recalled input rest old new quiet told 1
ends_draw_stopped recalled first last from to is_first is_last input rest old new quiet told fault stops tells = record { end = DrawStopped from to fault; asked_is = cc; status_is = refl; streams = (stops, tells) }

pub ends_shown : (recalled : Recalled) (only ns : Option ℕ) → ns ≡ only → (input rest old new quiet : Option (List ℕ)) (summary : Summary) → ShowsInput ns input rest old new summary → Exits (World only) recalled input rest old new quiet quiet 0
ends_shown recalled only ns is input rest old new quiet summary shows = record { end = Shown ns summary; asked_is = cc; status_is = refl; streams = (shows, refl) }

pub ends_show_stopped : (recalled : Recalled) (only ns : Option ℕ) → ns ≡ only → (input rest old new quiet told : Option (List ℕ)) (fault : ScriptFault) → StopsShowing ns input rest old new fault → TellsFault recalled fault quiet told → Exits (World only) recalled input rest old new quiet told 1
ends_show_stopped recalled only ns is input rest old new quiet told fault stops tells = record { end = ShowStopped ns fault; asked_is = cc; status_is = refl; streams = (stops, tells) }

pub ends_served : (recalled : Recalled) (input rest old new quiet : Option (List ℕ)) → ServesInput input rest old new → Exits Serve recalled input rest old new quiet quiet 0
ends_served recalled input rest old new quiet serves = record { end = Served; asked_is = refl; status_is = refl; streams = (serves, refl) }

pub ends_serve_stopped : (recalled : Recalled) (input rest old new quiet told : Option (List ℕ)) (fault : ScriptFault) → StopsServing input rest old new fault → Tells quiet told (script_told fault []) → Exits Serve recalled input rest old new quiet told 1
ends_serve_stopped recalled input rest old new quiet told fault stops tells = record { end = ServeStopped fault; asked_is = refl; status_is = refl; streams = (stops, tells) }

pub ends_explored : (recalled : Recalled) (most states : ℕ) (prefix : Vec ℕ Global) (choices : List ℕ)
    → states ≡ most → choices ≡ prefix.items
    → (input rest old new quiet : Option (List ℕ)) (findings : Findings) (status : ℕ)
    → ExploresInput states choices input rest old new findings → status ≡ status_of_findings findings
    → Exits (Explore most prefix) recalled input rest old new quiet quiet status
ends_explored recalled most states prefix choices is same input rest old new quiet findings status explores e = record
    { end = Explored states prefix findings; asked_is = cc; status_is = e; streams = (subst (λ (cs : List ℕ). ExploresInput states cs input rest old new findings) same explores, refl) }

pub ends_explore_stopped : (recalled : Recalled) (most states : ℕ) (prefix : Vec ℕ Global) (choices : List ℕ)
    → states ≡ most → choices ≡ prefix.items
    → (input rest old new quiet told : Option (List ℕ)) (fault : ExploreFault)
    → StopsExploring states choices input rest old new fault → TellsExplore recalled fault quiet told
    → Exits (Explore most prefix) recalled input rest old new quiet told 1
ends_explore_stopped recalled most states prefix choices is same input rest old new quiet told fault stops tells = record
    { end = ExploreStopped states prefix fault; asked_is = cc; status_is = refl; streams = (subst (λ (cs : List ℕ). StopsExploring states cs input rest old new fault) same stops, tells) }

pub ends_judged : (recalled : Recalled) (input rest old new quiet : Option (List ℕ)) (verdict : Verdict) (status : ℕ) → JudgesInput input rest old new verdict → status ≡ status_of_verdict verdict → Exits Judge recalled input rest old new quiet quiet status
ends_judged recalled input rest old new quiet verdict status judges e = record { end = Judged verdict; asked_is = refl; status_is = e; streams = (judges, refl) }

pub ends_judge_stopped : (recalled : Recalled) (input rest old new quiet told : Option (List ℕ)) (fault : JudgeFault) → StopsJudging input rest old new fault → Tells quiet told (judge_told fault) → Exits Judge recalled input rest old new quiet told 1
ends_judge_stopped recalled input rest old new quiet told fault stops tells = record { end = JudgeStopped fault; asked_is = refl; status_is = refl; streams = (stops, tells) }

pub ends_imported : (recalled : Recalled) (input rest old new quiet : Option (List ℕ)) (status : ℕ) → ImportsInput input rest old new → status ≡ 0 → Exits Import recalled input rest old new quiet quiet status
ends_imported recalled input rest old new quiet status imports e = record { end = Imported; asked_is = refl; status_is = e; streams = (imports, refl) }

pub ends_import_stopped : (recalled : Recalled) (input rest old new quiet told : Option (List ℕ)) (fault : ImportFault) → StopsImporting input rest old new fault → Tells quiet told (import_told fault) → Exits Import recalled input rest old new quiet told 1
ends_import_stopped recalled input rest old new quiet told fault stops tells = record { end = ImportStopped fault; asked_is = refl; status_is = refl; streams = (stops, tells) }

-- the line that tells the rounds is written, or isn't written whole
pub ends_saying_rounds : (recalled : Recalled) (walkers workers rounds : ℕ) (input old new quiet told : Option (List ℕ)) (tally : Tally) (status : ℕ) → IsTally walkers workers rounds tally → SaysWhole (rounds_line tally.rounds) old new quiet told status → Exits (Threads walkers workers rounds) recalled input input old new quiet told status
ends_saying_rounds recalled walkers workers rounds input old new quiet told tally status counted (inl says) = record { end = Ran walkers workers rounds tally; asked_is = refl; status_is = says.2; streams = (counted, refl, says.0, says.1) }
ends_saying_rounds recalled walkers workers rounds input old new quiet told tally status counted (inr cut) = record { end = Untold walkers workers rounds tally; asked_is = refl; status_is = cut.2; streams = (counted, refl, cut.0, cut.1) }

pub ends_not_run : (recalled : Recalled) (walkers workers rounds : ℕ) (input old quiet told : Option (List ℕ)) → Tells quiet told (word_told (codes "NoMemory")) → Exits (Threads walkers workers rounds) recalled input input old old quiet told 1
ends_not_run recalled walkers workers rounds input old quiet told tells = record { end = NotRun walkers workers rounds; asked_is = refl; status_is = refl; streams = (refl, refl, tells) }

pub ends_saying_help : (recalled : Recalled) (topic : Option Topic) (input old new quiet told : Option (List ℕ)) (status : ℕ) → SaysWhole (help_text topic) old new quiet told status → Exits (Help topic) recalled input input old new quiet told status
ends_saying_help recalled topic input old new quiet told status (inl says) = record { end = Helped topic; asked_is = refl; status_is = says.2; streams = (refl, says.0, says.1) }
ends_saying_help recalled topic input old new quiet told status (inr cut) = record { end = NotHelped topic; asked_is = refl; status_is = cut.2; streams = (refl, cut.0, cut.1) }

pub ends_saying_version : (recalled : Recalled) (input old new quiet told : Option (List ℕ)) (status : ℕ) → SaysWhole version_line old new quiet told status → Exits Version recalled input input old new quiet told status
ends_saying_version recalled input old new quiet told status (inl says) = record { end = Versioned; asked_is = refl; status_is = says.2; streams = (refl, says.0, says.1) }
ends_saying_version recalled input old new quiet told status (inr cut) = record { end = NotVersioned; asked_is = refl; status_is = cut.2; streams = (refl, cut.0, cut.1) }
