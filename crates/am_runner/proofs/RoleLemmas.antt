-- What the calls of a role come to.
use Rattle.std.proofs.Common.{◌≡◌, ℕ, ◌+◌, Bool, true, false, List, [], ◌∷◌, ◌++◌, Option, Some, None, Result, Ok, Err, refl, sym, ap, ◌∙◌, subst, append_assoc, inl, inr, arith, All, IfOk, OnErr, MatchBool}
use Rattle.std.proofs.lemmas.Bool.{false≢true}
use Rattle.std.proofs.lemmas.List.{append-nil}
use Rattle.std.proofs.lemmas.List.Elements.{All-nil, All-append, All-same, All-weaker}
use Rattle.am_names.specs.declared.fail_no.FailNo.{FailNo}
use Rattle.am_machine.specs.{Event}
use Rattle.am_machine.specs.declared.event.Event.TheVariants as events
use Rattle.am_pipe.specs.{Note}
use Rattle.am_shared.specs.{Receipt}
use Rattle.am_runner.specs.{Reply, Adds, Makes, IsOf, RanOut, IsCall, AreMany, has_to_wait, is_wait, is_arrival, is_done, job_of}
use Rattle.am_runner.specs.{resume, GoesOn, Settles, Leaves, IsRound, IsOfSettling, IsOfRound, IsCallOf, IsBreak, IsOfBreaker, delivery, IsActOf, IsAct, IsEnd, IsWork, IsWorkOf, IsService, GivesUp, IsBrokenOff, IsGivenUp, IsTried, AreEach, Serves}
use Rattle.am_runner.specs.declared.calls.Reply.TheVariants as replies
use Rattle.am_runner.proofs.CallLemmas.{adds_more, adds_as, makes_none, makes_as, makes_both, makes_adds, ran_is, each_of_call, each_of_many, many_more, many_out}

-- ---- walkers

wait_is : (reply : Reply) → is_wait reply ≡ true → reply ≡ replies.Wait
wait_is replies.Wait is = refl
wait_is replies.Arrived is = absurd (false≢true is)
wait_is (replies.Job job) is = absurd (false≢true is)
wait_is replies.Refused is = absurd (false≢true is)
wait_is replies.Done is = absurd (false≢true is)

-- one more resume that has to wait
pub waits_more : {E : Type 0} (walker n : ℕ) (outcome : Result Reply E) (a b c : List Receipt)
    → has_to_wait outcome ≡ true → Makes (AreMany (IsCall (resume walker) replies.Wait) n) a b
    → IfOk outcome (λ reply. Makes (IsCall (resume walker) reply) b c)
    → Makes (AreMany (IsCall (resume walker) replies.Wait) (n + 1)) a c
waits_more walker n (Ok reply) a b c is first last =
    many_more (IsCall (resume walker) replies.Wait) n a b c first
    (subst (λ w. Makes (IsCall (resume walker) w) b c) (wait_is reply is) last)
waits_more walker n (Err e) a b c is first last = absurd (false≢true is)

-- a resume that hasn't
pub goes_on : {E : Type 0} (walker n : ℕ) (outcome : Result Reply E) (a b c : List Receipt)
    → has_to_wait outcome ≡ false → Makes (AreMany (IsCall (resume walker) replies.Wait) n) a b
    → IfOk outcome (λ reply. Makes (IsCall (resume walker) reply) b c)
    → IfOk outcome (λ reply. Makes (GoesOn walker reply) a c)
goes_on walker n (Ok reply) a b c is first last =
    makes_both (AreMany (IsCall (resume walker) replies.Wait) n) (IsCall (resume walker) reply)
    (GoesOn walker reply) (λ m k waits call. record {
      count = n;
      waits = m;
      last = k;
      in_turn = refl;
      are_waits = waits;
      resumes = call;
      is_over = is;
    }) a b c first last
goes_on walker n (Err e) a b c is first last = tt

-- memory ran out behind so many resumes
pub goes_out : {E : Type 0} (walker n : ℕ) (outcome : Result Reply E) (a b c : List Receipt)
    → Makes (AreMany (IsCall (resume walker) replies.Wait) n) a b
    → OnErr outcome (Adds (RanOut (resume walker)) b c)
    → OnErr outcome (Adds (IsOf (resume walker)) a c)
goes_out walker n (Ok reply) a b c waits ran = tt
goes_out walker n (Err e) a b c waits ran =
    many_out (IsCall (resume walker) replies.Wait) (IsOf (resume walker))
    (each_of_call (resume walker) replies.Wait) n a b c waits (ran_is (resume walker) b c ran)

pub settles_once : {E : Type 0} (event : Event) (walker : ℕ) (outcome : Result Reply E)
    (a b : List Receipt) → has_to_wait outcome ≡ false
    → IfOk outcome (λ reply. Makes (IsCall event reply) a b)
    → IfOk outcome (λ reply. Makes (Settles event walker reply) a b)
settles_once event walker (Ok reply) a b is call =
    makes_as (IsCall event reply) (Settles event walker reply) a b (λ m one. inl (one, is)) call
settles_once event walker (Err e) a b is call = tt

pub settles_more : {E F : Type 0} (event : Event) (walker : ℕ) (first : Result Reply E)
    (outcome : Result Reply F) (a b c : List Receipt) → has_to_wait first ≡ true
    → IfOk first (λ reply. Makes (IsCall event reply) a b)
    → IfOk outcome (λ reply. Makes (GoesOn walker reply) b c)
    → IfOk outcome (λ reply. Makes (Settles event walker reply) a c)
settles_more event walker (Ok first) (Ok reply) a b c is call goes =
    makes_both (IsCall event replies.Wait) (GoesOn walker reply) (Settles event walker reply)
    (λ m n waits on. inr (record {
      first = m;
      rest = n;
      in_turn = refl;
      waits = waits;
      goes_on = on;
    })) a b c (subst (λ w. Makes (IsCall event w) a b) (wait_is first is) call) goes
settles_more event walker (Err e) (Ok reply) a b c is call goes = absurd (false≢true is)
settles_more event walker first (Err e) a b c is call goes = tt

pub begun_out : {E : Type 0} (event : Event) (walker : ℕ) (outcome : Result Reply E)
    (a b : List Receipt) → OnErr outcome (Adds (RanOut event) a b)
    → OnErr outcome (Adds (IsOfSettling event walker) a b)
begun_out event walker (Ok reply) a b ran = tt
begun_out event walker (Err e) a b ran =
    adds_as (RanOut event) (IsOfSettling event walker) a b (λ r out. inl out.0) ran

pub settling_out : {E F : Type 0} (event : Event) (walker : ℕ) (first : Result Reply E)
    (outcome : Result Reply F) (a b c : List Receipt) → has_to_wait first ≡ true
    → IfOk first (λ reply. Makes (IsCall event reply) a b)
    → OnErr outcome (Adds (IsOf (resume walker)) b c)
    → OnErr outcome (Adds (IsOfSettling event walker) a c)
settling_out event walker (Ok first) (Err e) a b c is call ran =
    adds_more (IsOfSettling event walker) a b c
    (adds_as (IsOf event) (IsOfSettling event walker) a b (λ r of. inl of)
    (makes_adds (IsCall event first) (IsOf event) (each_of_call event first) a b call))
    (adds_as (IsOf (resume walker)) (IsOfSettling event walker) b c (λ r of. inr of) ran)
settling_out event walker (Err e) (Err f) a b c is call ran = absurd (false≢true is)
settling_out event walker first (Ok reply) a b c is call ran = tt

each_of_going : (walker : ℕ) (reply : Reply) (made : List Receipt) → GoesOn walker reply made
    → All (IsOf (resume walker)) made
each_of_going walker reply made goes =
    All-same (IsOf (resume walker)) made (goes.waits ++ goes.last) goes.in_turn
    (All-append (IsOf (resume walker)) goes.waits goes.last
    (each_of_many (IsCall (resume walker) replies.Wait) (IsOf (resume walker))
    (each_of_call (resume walker) replies.Wait) goes.count goes.waits goes.are_waits)
    (each_of_call (resume walker) reply goes.last goes.resumes))

pub each_of_settling : (event : Event) (walker : ℕ) (reply : Reply) (made : List Receipt)
    → Settles event walker reply made → All (IsOfSettling event walker) made
each_of_settling event walker reply made (inl once) =
    All-weaker (IsOf event) (IsOfSettling event walker) (λ r is. inl is) made
    (each_of_call event reply made once.0)
each_of_settling event walker reply made (inr more) =
    All-same (IsOfSettling event walker) made (more.first ++ more.rest) more.in_turn
    (All-append (IsOfSettling event walker) more.first more.rest
    (All-weaker (IsOf event) (IsOfSettling event walker) (λ r is. inl is) more.first
    (each_of_call event replies.Wait more.first more.waits))
    (All-weaker (IsOf (resume walker)) (IsOfSettling event walker) (λ r is. inr is) more.rest
    (each_of_going walker reply more.rest more.goes_on)))

pub each_of_expiry : (walker : ℕ) (event : Event) (made : List Receipt)
    → (reply : Reply) × Settles event walker reply made → All (IsOfSettling event walker) made
each_of_expiry walker event made (reply, settles) = each_of_settling event walker reply made settles

pub expiry_more : (event : Event) (walker n : ℕ) (reply : Reply) (a b c : List Receipt)
    → Makes (AreMany (λ made. (r : Reply) × Settles event walker r made) n) a b
    → Makes (Settles event walker reply) b c
    → Makes (AreMany (λ made. (r : Reply) × Settles event walker r made) (n + 1)) a c
expiry_more event walker n reply a b c many one =
    many_more (λ made. (r : Reply) × Settles event walker r made) n a b c many
    (makes_as (Settles event walker reply) (λ made. (r : Reply) × Settles event walker r made) b c
    (λ m settles. (reply, settles)) one)

pub round_left : (walk : Event) (walker : ℕ) (reply left : Reply) (a b c : List Receipt)
    → is_arrival reply ≡ true → Makes (Settles walk walker reply) a b
    → Makes (IsCall (events.Leave walker) left) b c → Makes (IsRound walk walker) a c
round_left walk walker reply left a b c is =
    makes_both (Settles walk walker reply) (IsCall (events.Leave walker) left) (IsRound walk walker)
    (λ m n settles call. record {
      walks = m;
      leaves = n;
      reply = reply;
      in_turn = refl;
      settles = settles;
      ends = subst (λ arrives. Leaves walker arrives n) (sym is) (left, call);
    }) a b c

pub round_over : (walk : Event) (walker : ℕ) (reply : Reply) (a b : List Receipt)
    → is_arrival reply ≡ false → Makes (Settles walk walker reply) a b
    → Makes (IsRound walk walker) a b
round_over walk walker reply a b is =
    makes_as (Settles walk walker reply) (IsRound walk walker) a b (λ m settles. record {
      walks = m;
      leaves = [];
      reply = reply;
      in_turn = sym (append-nil m);
      settles = settles;
      ends = subst (λ arrives. Leaves walker arrives []) (sym is) refl;
    })

pub walk_out : (walk : Event) (walker : ℕ) (a b : List Receipt)
    → Adds (IsOfSettling walk walker) a b → Adds (IsOfRound walk walker) a b
walk_out walk walker a b =
    adds_as (IsOfSettling walk walker) (IsOfRound walk walker) a b (λ r is. inl is)

pub leave_out : (walk : Event) (walker : ℕ) (reply : Reply) (a b c : List Receipt)
    → Makes (Settles walk walker reply) a b → Adds (RanOut (events.Leave walker)) b c
    → Adds (IsOfRound walk walker) a c
leave_out walk walker reply a b c settles ran =
    adds_more (IsOfRound walk walker) a b c
    (walk_out walk walker a b
    (makes_adds (Settles walk walker reply) (IsOfSettling walk walker)
    (each_of_settling walk walker reply) a b settles))
    (adds_as (RanOut (events.Leave walker)) (IsOfRound walk walker) b c (λ r is. inr is.0) ran)

each_of_leaving : (walk : Event) (walker : ℕ) (arrives : Bool) (made : List Receipt)
    → Leaves walker arrives made → All (IsOfRound walk walker) made
each_of_leaving walk walker true made (reply, call) =
    All-weaker (IsOf (events.Leave walker)) (IsOfRound walk walker) (λ r is. inr is) made
    (each_of_call (events.Leave walker) reply made call)
each_of_leaving walk walker false made is =
    All-same (IsOfRound walk walker) made [] is (All-nil (IsOfRound walk walker))

pub each_of_round : (walk : Event) (walker : ℕ) (made : List Receipt) → IsRound walk walker made
    → All (IsOfRound walk walker) made
each_of_round walk walker made round =
    All-same (IsOfRound walk walker) made (round.walks ++ round.leaves) round.in_turn
    (All-append (IsOfRound walk walker) round.walks round.leaves
    (All-weaker (IsOfSettling walk walker) (IsOfRound walk walker) (λ r is. inl is) round.walks
    (each_of_settling walk walker round.reply round.walks round.settles))
    (each_of_leaving walk walker (is_arrival round.reply) round.leaves round.ends))

-- ---- who breaks

call_of : (event : Event) (reply : Reply) (a b : List Receipt) → Makes (IsCall event reply) a b
    → Makes (IsCallOf event) a b
call_of event reply a b =
    makes_as (IsCall event reply) (IsCallOf event) a b (λ m call. (reply, call))

each_of_call_of : (event : Event) (made : List Receipt) → IsCallOf event made → All (IsOf event) made
each_of_call_of event made (reply, call) = each_of_call event reply made call

-- one round of a breaker, by its three calls
pub break_calls : (fs : ℕ) (r s t : Reply) (a b c d : List Receipt)
    → Makes (IsCall events.Die r) a b → Makes (IsCall (events.AdminCatatonic fs) s) b c
    → Makes (IsCall (events.Reattach fs) t) c d → Makes (IsBreak fs) a d
break_calls fs r s t a b c d dies catatonic reattaches = record {
  made = (dies.made ++ catatonic.made) ++ reattaches.made;
  behind = reattaches.behind
      ∙ ap (λ xs. xs ++ reattaches.made) (catatonic.behind
      ∙ ap (λ xs. xs ++ catatonic.made) dies.behind ∙ append_assoc a dies.made catatonic.made)
      ∙ append_assoc a (dies.made ++ catatonic.made) reattaches.made;
  are = record {
    death = dies.made;
    catatonic = catatonic.made;
    reattachment = reattaches.made;
    in_turn = refl;
    dies = (r, dies.are);
    is_catatonic = (s, catatonic.are);
    reattaches = (t, reattaches.are);
  };
}

pub death_out : (fs : ℕ) (a b : List Receipt) → Adds (RanOut events.Die) a b
    → Adds (IsOfBreaker fs) a b
death_out fs a b = adds_as (RanOut events.Die) (IsOfBreaker fs) a b (λ r ran. inl ran.0)

death_adds : (fs : ℕ) (r : Reply) (a b : List Receipt) → Makes (IsCall events.Die r) a b
    → Adds (IsOfBreaker fs) a b
death_adds fs r a b dies =
    adds_as (IsOf events.Die) (IsOfBreaker fs) a b (λ x is. inl is)
    (makes_adds (IsCall events.Die r) (IsOf events.Die) (each_of_call events.Die r) a b dies)

pub catatonic_out : (fs : ℕ) (r : Reply) (a b c : List Receipt) → Makes (IsCall events.Die r) a b
    → Adds (RanOut (events.AdminCatatonic fs)) b c → Adds (IsOfBreaker fs) a c
catatonic_out fs r a b c dies ran =
    adds_more (IsOfBreaker fs) a b c (death_adds fs r a b dies)
    (adds_as (RanOut (events.AdminCatatonic fs)) (IsOfBreaker fs) b c (λ x is. inr (inl is.0)) ran)

pub reattachment_out : (fs : ℕ) (r s : Reply) (a b c d : List Receipt)
    → Makes (IsCall events.Die r) a b → Makes (IsCall (events.AdminCatatonic fs) s) b c
    → Adds (RanOut (events.Reattach fs)) c d → Adds (IsOfBreaker fs) a d
reattachment_out fs r s a b c d dies catatonic ran =
    adds_more (IsOfBreaker fs) a b d (death_adds fs r a b dies)
    (adds_more (IsOfBreaker fs) b c d
    (adds_as (IsOf (events.AdminCatatonic fs)) (IsOfBreaker fs) b c (λ x is. inr (inl is))
    (makes_adds (IsCall (events.AdminCatatonic fs) s) (IsOf (events.AdminCatatonic fs))
    (each_of_call (events.AdminCatatonic fs) s) b c catatonic))
    (adds_as (RanOut (events.Reattach fs)) (IsOfBreaker fs) c d (λ x is. inr (inr is.0)) ran))

pub each_of_break : (fs : ℕ) (made : List Receipt) → IsBreak fs made → All (IsOfBreaker fs) made
each_of_break fs made one =
    All-same (IsOfBreaker fs) made ((one.death ++ one.catatonic) ++ one.reattachment) one.in_turn
    (All-append (IsOfBreaker fs) (one.death ++ one.catatonic) one.reattachment
    (All-append (IsOfBreaker fs) one.death one.catatonic
    (All-weaker (IsOf events.Die) (IsOfBreaker fs) (λ x is. inl is) one.death
    (each_of_call_of events.Die one.death one.dies))
    (All-weaker (IsOf (events.AdminCatatonic fs)) (IsOfBreaker fs) (λ x is. inr (inl is))
    one.catatonic (each_of_call_of (events.AdminCatatonic fs) one.catatonic one.is_catatonic)))
    (All-weaker (IsOf (events.Reattach fs)) (IsOfBreaker fs) (λ x is. inr (inr is))
    one.reattachment (each_of_call_of (events.Reattach fs) one.reattachment one.reattaches)))

-- ---- workers

done_is : (reply : Reply) → is_done reply ≡ true → reply ≡ replies.Done
done_is replies.Done is = refl
done_is replies.Wait is = absurd (false≢true is)
done_is replies.Arrived is = absurd (false≢true is)
done_is (replies.Job job) is = absurd (false≢true is)
done_is replies.Refused is = absurd (false≢true is)

pub act_done : (job : ℕ) (failure : Option FailNo) (reply : Reply) (a b : List Receipt)
    → is_done reply ≡ true → Makes (IsCall (events.Act job failure) reply) a b
    → Makes (IsAct job replies.Done) a b
act_done job failure reply a b is call =
    makes_as (IsCall (events.Act job failure) replies.Done) (IsAct job replies.Done) a b
    (λ m one. (failure, one))
    (subst (λ r. Makes (IsCall (events.Act job failure) r) a b) (done_is reply is) call)

pub act_last : (job : ℕ) (failure : Option FailNo) (reply : Reply) (a b : List Receipt)
    → Makes (IsCall (events.Act job failure) reply) a b → Makes (IsEnd job) a b
act_last job failure reply a b =
    makes_as (IsCall (events.Act job failure) reply) (IsEnd job) a b
    (λ m one. inr (reply, (failure, one)))

-- an act, by whether that is done
pub act_reply : (job : ℕ) (failure : Option FailNo) (reply : Reply) (done : Bool) (a b : List Receipt)
    → is_done reply ≡ done → Makes (IsCall (events.Act job failure) reply) a b
    → MatchBool done (Makes (IsAct job replies.Done) a b) (Makes (IsEnd job) a b)
act_reply job failure reply true a b is call = act_done job failure reply a b is call
act_reply job failure reply false a b is call = act_last job failure reply a b call

pub act_out : (job : ℕ) (failure : Option FailNo) (a b : List Receipt)
    → Adds (RanOut (events.Act job failure)) a b → Adds (IsActOf job) a b
act_out job failure a b =
    adds_as (RanOut (events.Act job failure)) (IsActOf job) a b (λ r ran. (failure, ran.0))

pub each_of_act : (job : ℕ) (reply : Reply) (made : List Receipt) → IsAct job reply made
    → All (IsActOf job) made
each_of_act job reply made (failure, call) =
    All-weaker (IsOf (events.Act job failure)) (IsActOf job) (λ r is. (failure, is)) made
    (each_of_call (events.Act job failure) reply made call)

pub work_ends : (job n : ℕ) (a b c : List Receipt)
    → Makes (AreMany (IsAct job replies.Done) n) a b → Makes (IsEnd job) b c
    → Makes (IsWork job) a c
work_ends job n =
    makes_both (AreMany (IsAct job replies.Done) n) (IsEnd job) (IsWork job) (λ m k done last.
    record { count = n; done = m; last = k; in_turn = refl; are_done = done; ends = last })

job_is : (reply : Reply) (job : ℕ) → job_of reply ≡ Some job → reply ≡ replies.Job job
job_is (replies.Job other) job is = grind arith
job_is replies.Wait job is = grind arith
job_is replies.Arrived job is = grind arith
job_is replies.Refused job is = grind arith
job_is replies.Done job is = grind arith

pub service_job : (x : ℕ × Note) (reply : Reply) (job : ℕ) (a b c : List Receipt)
    → job_of reply ≡ Some job → Makes (IsCall (delivery x) reply) a b → Makes (IsWork job) b c
    → Makes (IsService x) a c
service_job x reply job a b c is =
    makes_both (IsCall (delivery x) reply) (IsWork job) (IsService x) (λ m n call work. record {
      delivers = m;
      works = n;
      reply = reply;
      in_turn = refl;
      delivered = call;
      worked = subst (λ found. IsWorkOf found n) (sym is) work;
    }) a b c

pub service_none : (x : ℕ × Note) (reply : Reply) (a b : List Receipt) → job_of reply ≡ None
    → Makes (IsCall (delivery x) reply) a b → Makes (IsService x) a b
service_none x reply a b is =
    makes_as (IsCall (delivery x) reply) (IsService x) a b (λ m call. record {
      delivers = m;
      works = [];
      reply = reply;
      in_turn = sym (append-nil m);
      delivered = call;
      worked = subst (λ found. IsWorkOf found []) (sym is) refl;
    })

pub delivery_out : (x : ℕ × Note) (a b : List Receipt) → Adds (RanOut (delivery x)) a b
    → Makes (IsBrokenOff x) a b
delivery_out x a b ran = record {
  made = ran.made;
  behind = ran.behind;
  are = record {
    delivers = ran.made;
    works = [];
    in_turn = sym (append-nil ran.made);
    each = All-weaker (RanOut (delivery x)) (IsOf (delivery x)) (λ r is. is.0) ran.made ran.each;
    acts = inl refl;
  };
}

pub work_out : (x : ℕ × Note) (reply : Reply) (job : ℕ) (a b c : List Receipt)
    → job_of reply ≡ Some job → Makes (IsCall (delivery x) reply) a b → Adds (IsActOf job) b c
    → Makes (IsBrokenOff x) a c
work_out x reply job a b c is call ran = record {
  made = call.made ++ ran.made;
  behind = ran.behind ∙ ap (λ xs. xs ++ ran.made) call.behind ∙ append_assoc a call.made ran.made;
  are = record {
    delivers = call.made;
    works = ran.made;
    in_turn = refl;
    each = each_of_call (delivery x) reply call.made call.are;
    acts = inr (
      job,
      subst (λ r. IsCall (delivery x) r call.made) (job_is reply job is) call.are,
      ran.each,
    );
  };
}

pub tried_service : (fs : ℕ) (x : ℕ × Note) (a b : List Receipt) → Makes (IsService x) a b
    → Makes (IsTried fs x) a b
tried_service fs x a b = makes_as (IsService x) (IsTried fs x) a b (λ m is. inl is)

pub tried_given_up : (fs : ℕ) (x : ℕ × Note) (a b : List Receipt) → Makes (IsGivenUp fs x) a b
    → Makes (IsTried fs x) a b
tried_given_up fs x a b = makes_as (IsGivenUp fs x) (IsTried fs x) a b (λ m is. inr is)

pub gave_up : (fs : ℕ) (reply : Reply) (a b : List Receipt) → Makes (IsCall (events.AdminCatatonic fs) reply) a b
    → Makes (GivesUp fs) a b
gave_up fs reply a b =
    makes_as (IsCall (events.AdminCatatonic fs) reply) (GivesUp fs) a b (λ m is. inl (reply, is))

pub gave_in : (fs : ℕ) (a b : List Receipt) → Adds (RanOut (events.AdminCatatonic fs)) a b → Makes (GivesUp fs) a b
gave_in fs a b adds = record {
  made = adds.made;
  behind = adds.behind;
  are = inr adds.each;
}

pub broken_and_given_up : (fs : ℕ) (x : ℕ × Note) (a b c : List Receipt)
    → Makes (IsBrokenOff x) a b → Makes (GivesUp fs) b c → Makes (IsGivenUp fs x) a c
broken_and_given_up fs x =
    makes_both (IsBrokenOff x) (GivesUp fs) (IsGivenUp fs x) (λ m n broken gives. record {
      tried = m;
      gave = n;
      in_turn = refl;
      broken_off = broken;
      gives_up = gives;
    })

pub serves_none : (P : ℕ × Note → List Receipt → Type 0) (got : List (ℕ × Note))
    (a : List Receipt) → Serves P got got a a
serves_none P got a = record {
  taken = [];
  takes = sym (append-nil got);
  made = [];
  behind = sym (append-nil a);
  are = refl;
}

each_more : (P : ℕ × Note → List Receipt → Type 0) (taken : List (ℕ × Note)) (x : ℕ × Note)
    (m n : List Receipt) → AreEach P taken m → P x n → AreEach P (taken ++ x ∷ []) (m ++ n)
each_more P [] x m n none one =
    (n, [], ap (λ xs. xs ++ n) none ∙ sym (append-nil n), one, refl)
each_more P (y ∷ taken) x m n (first, rest, is, this, more) one = (
  first,
  rest ++ n,
  ap (λ xs. xs ++ n) is ∙ append_assoc first rest n,
  this,
  each_more P taken x rest n more one,
)

pub serves_more : (P : ℕ × Note → List Receipt → Type 0) (got got' got'' : List (ℕ × Note))
    (x : ℕ × Note) (a b c : List Receipt) → Serves P got got' a b → got'' ≡ got' ++ x ∷ []
    → Makes (P x) b c → Serves P got got'' a c
serves_more P got got' got'' x a b c first takes last = record {
  taken = first.taken ++ x ∷ [];
  takes = takes ∙ ap (λ xs. xs ++ x ∷ []) first.takes ∙ append_assoc got first.taken (x ∷ []);
  made = first.made ++ last.made;
  behind = last.behind ∙ ap (λ xs. xs ++ last.made) first.behind
      ∙ append_assoc a first.made last.made;
  are = each_more P first.taken x first.made last.made first.are last.are;
}
