-- What a call adds, and what it adds to that.
use Rattle.std.proofs.Common.{◌≡◌, ℕ, zero, suc, ◌+◌, List, [], ◌∷◌, ◌++◌, Option, Some, None, Result, Ok, Err, IfOk, OnOk, OnErr, Bool, true, false, MatchBool, refl, sym, ap, ◌∙◌, subst, append_assoc, length-append, arith, All}
use Rattle.std.proofs.lemmas.Bool.{false≢true}
use Rattle.std.proofs.lemmas.List.{append-nil}
use Rattle.std.proofs.lemmas.List.Elements.{All-nil, All-cons, All-append, All-same, All-weaker}
use Rattle.std.specs.Prelude.{◌-◌, length, slice_get}
use Rattle.std.specs.Option.{ok_or}
use Rattle.std.specs.Result.{is_err}
use Rattle.am_machine.specs.{Answer, Event, Setup}
use Rattle.am_shared.specs.{Account, Receipt, Receives}
use Rattle.am_runner.specs.{Reply, Adds, Makes, IsOf, RanOut, IsCall, AreMany, reply_of}

pub match_true : (b : Bool) (P Q : Type 0) → b ≡ true → MatchBool b P Q → P
match_true true P Q is p = p
match_true false P Q is q = absurd (false≢true is)

pub on_err : {T E : Type 0} (r : Result T E) (P : Type 0) → P → OnErr r P
on_err (Ok x) P p = tt
on_err (Err e) P p = p

pub err_as : {T E : Type 0} (r : Result T E) (P Q : Type 0) → (P → Q) → OnErr r P → OnErr r Q
err_as (Ok x) P Q f p = tt
err_as (Err e) P Q f p = f p

pub ok_as : {T E : Type 0} (r : Result T E) (P Q : Type 0) → (P → Q) → OnOk r P → OnOk r Q
ok_as (Ok x) P Q f p = f p
ok_as (Err e) P Q f p = tt

pub adds_none : (P : Receipt → Type 0) (a : List Receipt) → Adds P a a
adds_none P a = record { made = []; behind = sym (append-nil a); each = All-nil P }

pub adds_more : (P : Receipt → Type 0) (a b c : List Receipt) → Adds P a b → Adds P b c → Adds P a c
adds_more P a b c first last = record {
  made = first.made ++ last.made;
  behind = last.behind ∙ ap (λ xs. xs ++ last.made) first.behind
      ∙ append_assoc a first.made last.made;
  each = All-append P first.made last.made first.each last.each;
}

pub adds_as : (P Q : Receipt → Type 0) (a b : List Receipt) → ((r : Receipt) → P r → Q r)
    → Adds P a b → Adds Q a b
adds_as P Q a b f adds = record {
  made = adds.made;
  behind = adds.behind;
  each = All-weaker P Q f adds.made adds.each;
}

pub makes_none : (P : List Receipt → Type 0) (a : List Receipt) → P [] → Makes P a a
makes_none P a none = record { made = []; behind = sym (append-nil a); are = none }

pub makes_as : (P Q : List Receipt → Type 0) (a b : List Receipt)
    → ((m : List Receipt) → P m → Q m) → Makes P a b → Makes Q a b
makes_as P Q a b f makes = record {
  made = makes.made;
  behind = makes.behind;
  are = f makes.made makes.are;
}

-- what was made first, and what was made behind it
pub makes_both : (P Q R : List Receipt → Type 0)
    → ((m n : List Receipt) → P m → Q n → R (m ++ n)) → (a b c : List Receipt) → Makes P a b
    → Makes Q b c → Makes R a c
makes_both P Q R f a b c first last = record {
  made = first.made ++ last.made;
  behind = last.behind ∙ ap (λ xs. xs ++ last.made) first.behind
      ∙ append_assoc a first.made last.made;
  are = f first.made last.made first.are last.are;
}

pub makes_adds : (P : List Receipt → Type 0) (role : Receipt → Type 0)
    → ((m : List Receipt) → P m → All role m) → (a b : List Receipt) → Makes P a b → Adds role a b
makes_adds P role f a b makes = record {
  made = makes.made;
  behind = makes.behind;
  each = f makes.made makes.are;
}

-- receipts of a role behind what another kind of receipts says
pub adds_makes : (P : Receipt → Type 0) (Q R : List Receipt → Type 0)
    → ((m n : List Receipt) → All P m → Q n → R (m ++ n)) → (a b c : List Receipt) → Adds P a b
    → Makes Q b c → Makes R a c
adds_makes P Q R f a b c first last = record {
  made = first.made ++ last.made;
  behind = last.behind ∙ ap (λ xs. xs ++ last.made) first.behind
      ∙ append_assoc a first.made last.made;
  are = f first.made last.made first.each last.are;
}

get_last : (rs : List Receipt) (r : Receipt) → slice_get (rs ++ r ∷ []) (length rs) ≡ Some r
get_last [] r = refl
get_last (x ∷ rs) r = get_last rs r

some_same : (x y : Receipt) → Some x ≡ Some y → x ≡ y
some_same x y e = cc

-- the last receipt is that of the last call
pub last_made : (old new : List Receipt) (made last : Receipt) → new ≡ old ++ made ∷ []
    → Some last ≡ slice_get new (length new - 1) → last ≡ made
last_made old new made last behind at =
    let long : length new - 1 ≡ length old =
    omega (arith, ap length behind, length-append old (made ∷ [])) in
    some_same last made (at ∙ (λ i. slice_get (behind i) (long i)) ∙ get_last old made)

pub call_once : (event : Event) (reply : Reply) (r : Receipt) (a b : List Receipt) → b ≡ a ++ r ∷ []
    → r.event ≡ event → reply_of r.answer ≡ Some reply → Makes (IsCall event reply) a b
call_once event reply r a b behind is_of replies = record {
  made = r ∷ [];
  behind = behind;
  are = record {
    tries = [];
    last = r;
    in_turn = refl;
    ran_out = All-nil (RanOut event);
    is_of = is_of;
    replies = replies;
  };
}

-- the same of a call, whose receipt is asked for behind it
pub call_made : (event : Event) (reply : Reply) (position : ℕ) (answer : Answer) (last : Receipt)
    (a b : List Receipt)
    → b ≡ a ++ record { position = position; event = event; answer = answer } ∷ []
    → Some last ≡ slice_get b (length b - 1) → reply_of last.answer ≡ Some reply
    → Makes (IsCall event reply) a b
call_made event reply position answer last a b behind at replies =
    let r : Receipt = record { position = position; event = event; answer = answer } in
    call_once event reply r a b behind refl
    (ap (λ (x : Receipt). reply_of x.answer) (sym (last_made a b r last behind at)) ∙ replies)

pub ran_once : (event : Event) (r : Receipt) (a b : List Receipt) → b ≡ a ++ r ∷ []
    → r.event ≡ event → reply_of r.answer ≡ None → Adds (RanOut event) a b
ran_once event r a b behind is_of none = record {
  made = r ∷ [];
  behind = behind;
  each = All-cons (RanOut event) r [] (is_of, none) (All-nil (RanOut event));
}

pub ran_made : (event : Event) (position : ℕ) (answer : Answer) (last : Receipt) (a b : List Receipt)
    → b ≡ a ++ record { position = position; event = event; answer = answer } ∷ []
    → Some last ≡ slice_get b (length b - 1) → reply_of last.answer ≡ None → Adds (RanOut event) a b
ran_made event position answer last a b behind at none =
    let r : Receipt = record { position = position; event = event; answer = answer } in
    ran_once event r a b behind refl
    (ap (λ (x : Receipt). reply_of x.answer) (sym (last_made a b r last behind at)) ∙ none)

-- a call, by what is made of its answer
replies_ok : {E : Type 0} (e : E) (event : Event) (o : Option Reply) (position : ℕ)
    (answer : Answer) (last : Receipt) (a b : List Receipt)
    → b ≡ a ++ record { position = position; event = event; answer = answer } ∷ []
    → Some last ≡ slice_get b (length b - 1) → o ≡ reply_of last.answer
    → IfOk (ok_or o e) (λ reply. Makes (IsCall event reply) a b)
replies_ok e event (Some reply) position answer last a b behind at is =
    call_made event reply position answer last a b behind at (sym is)
replies_ok e event None position answer last a b behind at is = tt

replies_err : {E : Type 0} (e : E) (event : Event) (o : Option Reply) (position : ℕ)
    (answer : Answer) (last : Receipt) (a b : List Receipt)
    → b ≡ a ++ record { position = position; event = event; answer = answer } ∷ []
    → Some last ≡ slice_get b (length b - 1) → o ≡ reply_of last.answer
    → OnErr (ok_or o e) (Adds (RanOut event) a b)
replies_err e event (Some reply) position answer last a b behind at is = tt
replies_err e event None position answer last a b behind at is =
    ran_made event position answer last a b behind at (sym is)

received_behind : (opening : Setup) (sent event : Event) (position : ℕ) (a b : Account)
    → sent ≡ event → (r : Receives opening a b sent position)
    → b.receipts ≡ a.receipts ++ record { position = position; event = event; answer = r.answer } ∷ []
received_behind opening sent event position a b is r =
    r.receipt
    ∙ ap (λ (x : Event). a.receipts ++ record { position = position; event = x; answer = r.answer } ∷ []) is

-- a call that was made, by what is made of the last receipt
pub called_ok : {E U : Type 0} (e : E) (opening : Setup) (outcome : Result ℕ U) (sent event : Event)
    (o : Option Reply) (last : Receipt) (a b : Account) → is_err outcome ≡ false
    → IfOk outcome (λ position. Receives opening a b sent position) → sent ≡ event
    → Some last ≡ slice_get b.receipts (length b.receipts - 1) → o ≡ reply_of last.answer
    → IfOk (ok_or o e) (λ reply. Makes (IsCall event reply) a.receipts b.receipts)
called_ok e opening (Ok position) sent event o last a b made received is at replies =
    replies_ok e event o position received.answer last a.receipts b.receipts
    (received_behind opening sent event position a b is received) at replies
called_ok e opening (Err u) sent event o last a b made received is at replies =
    absurd (false≢true (sym made))

pub called_err : {E U : Type 0} (e : E) (opening : Setup) (outcome : Result ℕ U) (sent event : Event)
    (o : Option Reply) (last : Receipt) (a b : Account) → is_err outcome ≡ false
    → IfOk outcome (λ position. Receives opening a b sent position) → sent ≡ event
    → Some last ≡ slice_get b.receipts (length b.receipts - 1) → o ≡ reply_of last.answer
    → OnErr (ok_or o e) (Adds (RanOut event) a.receipts b.receipts)
called_err e opening (Ok position) sent event o last a b made received is at replies =
    replies_err e event o position received.answer last a.receipts b.receipts
    (received_behind opening sent event position a b is received) at replies
called_err e opening (Err u) sent event o last a b made received is at replies =
    absurd (false≢true (sym made))

-- a call that is answered in the end
pub call_behind : (event : Event) (reply : Reply) (a b c : List Receipt) → Adds (RanOut event) a b
    → Makes (IsCall event reply) b c → Makes (IsCall event reply) a c
call_behind event reply a b c =
    adds_makes (RanOut event) (IsCall event reply) (IsCall event reply)
    (λ m n ran call. record {
      tries = m ++ call.tries;
      last = call.last;
      in_turn = ap (λ xs. m ++ xs) call.in_turn ∙ sym (append_assoc m call.tries (call.last ∷ []));
      ran_out = All-append (RanOut event) m call.tries ran call.ran_out;
      is_of = call.is_of;
      replies = call.replies;
    }) a b c

pub ran_is : (event : Event) (a b : List Receipt) → Adds (RanOut event) a b → Adds (IsOf event) a b
ran_is event a b = adds_as (RanOut event) (IsOf event) a b (λ r ran. ran.0)

-- each receipt of a call is one of its event
pub each_of_call : (event : Event) (reply : Reply) (made : List Receipt) → IsCall event reply made
    → All (IsOf event) made
each_of_call event reply made call =
    All-same (IsOf event) made (call.tries ++ call.last ∷ []) call.in_turn
    (All-append (IsOf event) call.tries (call.last ∷ [])
    (All-weaker (RanOut event) (IsOf event) (λ r ran. ran.0) call.tries call.ran_out)
    (All-cons (IsOf event) call.last [] call.is_of (All-nil (IsOf event))))

pub many_none : (P : List Receipt → Type 0) (a : List Receipt) → Makes (AreMany P 0) a a
many_none P a = makes_none (AreMany P 0) a refl

pub many_more : (P : List Receipt → Type 0) (n : ℕ) (a b c : List Receipt)
    → Makes (AreMany P n) a b → Makes P b c → Makes (AreMany P (n + 1)) a c
many_more P n a b c first last =
    let next : n + 1 ≡ suc n = omega arith in
    subst (λ k. Makes (AreMany P k) a c) (sym next)
    (makes_both (AreMany P n) P (AreMany P (suc n)) (λ k m before one. (k, m, refl, before, one))
    a b c first last)

pub each_of_many : (P : List Receipt → Type 0) (role : Receipt → Type 0)
    → ((m : List Receipt) → P m → All role m) → (n : ℕ) (made : List Receipt) → AreMany P n made
    → All role made
each_of_many P role f zero made is = All-same role made [] is (All-nil role)
each_of_many P role f (suc n) made (before, last, is, many, one) =
    All-same role made (before ++ last) is
    (All-append role before last (each_of_many P role f n before many) (f last one))

-- memory ran out behind so many of such
pub many_out : (P : List Receipt → Type 0) (role : Receipt → Type 0)
    → ((m : List Receipt) → P m → All role m) → (n : ℕ) (a b c : List Receipt)
    → Makes (AreMany P n) a b → Adds role b c → Adds role a c
many_out P role f n a b c many ran =
    adds_more role a b c
    (makes_adds (AreMany P n) role (each_of_many P role f n) a b many) ran
