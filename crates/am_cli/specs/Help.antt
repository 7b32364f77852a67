-- What help and the version say, and how the program is used: own choice (docs/FORMATS.md, "The program").
use Rattle.std.specs.Prelude.{◌++◌, ◌∷◌, ℕ, List, [], Option, None, Some, codes}
use Rattle.std.specs.List.{flat_map}
use Rattle.am_cli.specs.declared.topics.Topic.{Topic}
use Rattle.am_cli.specs.declared.topics.Topic.TheVariants as topics

-- the version of the program
abbrev pub version : List ℕ
version = codes "1.0.0"

-- the line that tells it
abbrev pub version_line : List ℕ
version_line = flat_map (λ part. part) (codes "automount_cli " ∷ version ∷ codes "\n" ∷ [])

-- what help says of the program
abbrev pub program_help : List ℕ
program_help =
    codes "Usage: automount_cli COMMAND [OPTION]...\n\n"
    ++ (codes "Plays scripts of autofs events on a model of the kernel's autofs over shared\n"
    ++ (codes "mounts and of the daemon that serves it. It mounts nothing. All commands but\n"
    ++ (codes "threads and help read standard input, and all write to standard output.\n\n"
    ++ (codes "Commands:\n"
    ++ (codes "  script   reads a script, plays it, and writes the answer of each event\n"
    ++ (codes "  trace    the same, with each event and what is seen of it; --plain for diff\n"
    ++ (codes "  draw     reads a script, and writes a picture of what happens, an SVG\n"
    ++ (codes "             --from N, --to N  draw the events from one number to another\n"
    ++ (codes "  world    reads a script, and writes the world that it leaves; --namespace N\n"
    ++ (codes "  serve    reads lines, and answers each as it comes: events and questions\n"
    ++ (codes "  explore  reads a scene, and tries all orders of its threads; --most N states\n"
    ++ (codes "  judge    reads a trace, and writes whether it is lawful\n"
    ++ (codes "  import   reads mountinfo, and writes a script that builds its mounts\n"
    ++ (codes "  threads  runs threads over one world; --walkers N, --workers N, --rounds N\n"
    ++ (codes "  help     writes this, or what a COMMAND does; so do --help and -h\n\n"
    ++ (codes "--version and -V write the version.\n"
    ++ (codes "Exit status: 0 done; 1 a fault, a trace that breaks a law, or a question that\n"
    ++ (codes "doesn't come out as asked; 2 no command line; 3 not all orders were seen.\n"
    ++ codes "Example: echo events | automount_cli world\n"))))))))))))))))))

-- what help says of the command `script`
abbrev pub script_help : List ℕ
script_help =
    codes "Usage: automount_cli script < FILE\n\n"
    ++ (codes "Reads a script, plays it, and writes the answer of each event, a line each.\n"
    ++ (codes "All lines that were read are answered before more is read, so that a program\n"
    ++ (codes "at the other end of two pipes can choose each event by the answers before it.\n\n"
    ++ (codes "Options:\n  -h, --help  write this\n\n"
    ++ (codes "Exit status: 0 the script was played to its end; 1 a fault, told on standard\n"
    ++ codes "error with its line.\nExample: echo events | automount_cli script\n")))))

-- what help says of the command `trace`
abbrev pub trace_help : List ℕ
trace_help =
    codes "Usage: automount_cli trace [--plain] < FILE\n\n"
    ++ (codes "Reads a script, plays it as script does, and writes its trace: each event after\n"
    ++ (codes "the number of its line, its answer after =, with how many lines stand below it,\n"
    ++ (codes "and what is observed, a line each, after two blanks.\n\nOptions:\n"
    ++ (codes "  --plain     leave out the numbers of lines, so that diff compares two traces\n"
    ++ (codes "  -h, --help  write this\n\n"
    ++ (codes "Exit status: 0 the trace was written to its end; 1 a fault, told on standard\n"
    ++ codes "error with its line.\nExample: echo events | automount_cli trace\n"))))))

-- what help says of the command `draw`
abbrev pub draw_help : List ℕ
draw_help =
    codes "Usage: automount_cli draw [--from N] [--to N] < FILE\n\n"
    ++ (codes "Reads a script, whole, plays it, and writes a picture of what happens, an SVG;\n"
    ++ (codes "of a script without events nothing.\n\nOptions:\n"
    ++ (codes "  --from N    the first event that is drawn, from 1; 1 if left out\n"
    ++ (codes "  --to N      the last one, from 1; if left out the last of the script\n"
    ++ (codes "  -h, --help  write this\n\n"
    ++ (codes "Exit status: 0 the picture was written to its end; 1 a fault, told on standard\n"
    ++ codes "error with its line.\nExample: automount_cli draw --to 40 < FILE > FILE.svg\n"))))))

-- what help says of the command `world`
abbrev pub world_help : List ℕ
world_help =
    codes "Usage: automount_cli world [--namespace N] < FILE\n\n"
    ++ (codes "Reads a script, whole, plays it, and writes the world that it leaves: the\n"
    ++ (codes "mounts of each namespace as /proc/PID/mountinfo has them, and what else there\n"
    ++ (codes "is in comments.\n\nOptions:\n"
    ++ (codes "  --namespace N  the mounts of this namespace, and nothing else\n"
    ++ (codes "  -h, --help     write this\n\n"
    ++ (codes "Exit status: 0 the world was written to its end; 1 a fault, told on standard\n"
    ++ codes "error with its line.\nExample: automount_cli world --namespace 0 < FILE\n"))))))

-- what help says of the command `serve`
abbrev pub serve_help : List ℕ
serve_help =
    codes "Usage: automount_cli serve\n\n"
    ++ (codes "Reads lines, and answers each before it waits for the next: by no line or more,\n"
    ++ (codes "and then by a line that is just a dot. The lines up to events are the head of a\n"
    ++ (codes "script. Behind it a line is an event, a question or a command; one that is none\n"
    ++ (codes "of these is answered by its fault, and nothing has changed.\n\n"
    ++ (codes "  ?trace             what the last event showed\n"
    ++ (codes "  ?world, ?world N   the world as it is, or the mounts of one namespace\n"
    ++ (codes "  ?next JOB          what a job does next\n"
    ++ (codes "  ?waiting W         the token on which a walker waits\n"
    ++ (codes "  ?kind NS PATH      how a mount takes part in propagation\n"
    ++ (codes "  ?lawful            whether all that was observed is lawful\n"
    ++ (codes "  !save, !back       keeps a copy of the world, and comes back to it\n"
    ++ (codes "  !reset             another head begins\n\n"
    ++ (codes "Options:\n"
    ++ (codes "  -h, --help  write this\n\n"
    ++ (codes "Exit status: 0 the input came to its end; 1 a fault of a stream, told on\n"
    ++ (codes "standard error with its line.\n"
    ++ codes "Example: echo '!reset' | automount_cli serve\n"))))))))))))))))

-- what help says of the command `explore`
abbrev pub explore_help : List ℕ
explore_help =
    codes "Usage: automount_cli explore [--most N] [--prefix CHOICES] < SCENE\n\n"
    ++ (codes "Reads a scene, whole: a script, and behind its events threads and questions.\n"
    ++ (codes "Tries all orders in which the threads' events can come, and writes for each\n"
    ++ (codes "question whether some order meets it, with the events of a shortest one.\n\n"
    ++ (codes "  thread NAME .. end     the events of a thread, a line each, in their order\n"
    ++ (codes "  serve daemon [fail N]  the daemon takes part; its acts may fail with error N\n"
    ++ (codes "  sometimes, never       before what is asked: NAME waiting, that this thread\n"
    ++ (codes "                         waits without end; NAME N ANSWER, that its event\n"
    ++ (codes "                         number N is answered so; or a LINE, that the world's\n"
    ++ (codes "                         text has such a line at the end, * is any word\n"
    ++ (codes "  always LINE            that it has one at each end\n\n"
    ++ (codes "Options:\n"
    ++ (codes "  --most N          the most states of one search; 1000000 if left out\n"
    ++ (codes "  --prefix CHOICES  orders alone that begin with these choices, each its number\n"
    ++ (codes "                    among those that there are, from 1: as 3,1,12\n"
    ++ (codes "  -h, --help        write this\n\n"
    ++ (codes "Exit status: 0 each came out as asked, by an order or by none; 1 one didn't, or\n"
    ++ (codes "a fault, told on standard error; 3 else, where a search was cut.\n"
    ++ codes "Example: automount_cli explore --most 5000 < FILE\n")))))))))))))))))

-- what help says of the command `judge`
abbrev pub judge_help : List ℕ
judge_help =
    codes "Usage: automount_cli judge < TRACE\n\n"
    ++ (codes "Reads a trace, whole, and writes lawful, or the line at which a law of traces\n"
    ++ (codes "is broken first, and which law.\n\nOptions:\n  -h, --help  write this\n\n"
    ++ (codes "Exit status: 0 the trace is lawful; 1 it breaks a law, or a fault, told on\n"
    ++ (codes "standard error with its line and column.\n"
    ++ codes "Example: automount_cli trace < FILE | automount_cli judge\n"))))

-- what help says of the command `import`
abbrev pub import_help : List ℕ
import_help =
    codes "Usage: automount_cli import < MOUNTINFO\n\n"
    ++ (codes "Reads the mountinfo of one or more mount namespaces, whole, each after a line\n"
    ++ (codes "# namespace, and writes a script that builds the same mounts.\n\nOptions:\n"
    ++ (codes "  -h, --help  write this\n\n"
    ++ (codes "Exit status: 0 the script was written to its end; 1 a fault, told on standard\n"
    ++ (codes "error with its line and column.\n"
    ++ codes "Example: automount_cli import < /proc/self/mountinfo\n")))))

-- what help says of the command `threads`
abbrev pub threads_help : List ℕ
threads_help =
    codes "Usage: automount_cli threads [--walkers N] [--workers N] [--rounds N]\n\n"
    ++ (codes "Reads nothing. Has walkers, workers of the daemon and an expirer run as\n"
    ++ (codes "threads over one world, and writes how many rounds all walkers made.\n\nOptions:\n"
    ++ (codes "  --walkers N  how many walk, from 1 to 16; 4 if left out\n"
    ++ (codes "  --workers N  how many serve them, from 1 to 16; 2 if left out\n"
    ++ (codes "  --rounds N   how often each walks, from 1 to 1000; 10 if left out\n"
    ++ (codes "  -h, --help   write this\n\n"
    ++ (codes "Exit status: 0 all rounds were made and written; 1 out of memory, or they\n"
    ++ (codes "weren't written, told on standard error.\n"
    ++ codes "Example: automount_cli threads --walkers 2 --rounds 100\n"))))))))

-- what help says of the command `help`
abbrev pub help_help : List ℕ
help_help =
    codes "Usage: automount_cli help [COMMAND]\n\n"
    ++ (codes "Reads nothing, and writes what the program does, or what one command does.\n\n"
    ++ (codes "Options:\n  -h, --help  write this\n\n"
    ++ (codes "Exit status: 0 it was written to its end; 1 it wasn't, told on standard error.\n"
    ++ codes "Example: automount_cli help draw\n")))

-- the command lines that there are
abbrev pub usage_text : List ℕ
usage_text =
    codes "usage: automount_cli script|serve|judge|import < FILE\n"
    ++ (codes "       automount_cli trace [--plain] < FILE\n"
    ++ (codes "       automount_cli draw [--from N] [--to N] < FILE\n"
    ++ (codes "       automount_cli world [--namespace N] < FILE\n"
    ++ (codes "       automount_cli explore [--most N] [--prefix CHOICES] < FILE\n"
    ++ (codes "       automount_cli threads [--walkers N] [--workers N] [--rounds N]\n"
    ++ codes "       automount_cli help [COMMAND]\n       automount_cli --version\n")))))

-- what help says of a command, or of the program
abbrev pub help_text : Option Topic → List ℕ
help_text None = program_help
help_text (Some topics.Script) = script_help
help_text (Some topics.Trace) = trace_help
help_text (Some topics.Draw) = draw_help
help_text (Some topics.World) = world_help
help_text (Some topics.Serve) = serve_help
help_text (Some topics.Explore) = explore_help
help_text (Some topics.Judge) = judge_help
help_text (Some topics.Import) = import_help
help_text (Some topics.Threads) = threads_help
help_text (Some topics.Help) = help_help
