-- Replies, one behind the other.
use Rattle.std.proofs.Common.{◌≡◌, List, [], ◌∷◌, ◌++◌, ℕ, refl, sym, ap, subst, ◌∙◌, append_assoc, append-nil}
use Rattle.std.proofs.Common.{Option}
use Rattle.am_script.specs.{ScriptFault}
use Rattle.am_serve.specs.declared.service.Service.{Service}
use Rattle.am_serve.specs.declared.telling.Telling.{Telling}
use Rattle.am_serve.specs.Keeping.{Attends}
use Rattle.am_serve.specs.Replies.{AreReplies, IsReply, IsSaid, IsUnsaid, Loses, Sends, closed}
use Rattle.am_serve.specs.Tellings.{IsTold}

-- the reply to one line more
pub replies_more : (old mid new : Service) (lines : List (List ℕ)) (line text reply : List ℕ) → AreReplies old lines mid text → IsReply mid line new reply → AreReplies old (lines ++ line ∷ []) new (text ++ reply)
replies_more old mid new [] line text reply h is =
    (new, reply, [], subst (λ (s : Service). IsReply s line new reply) h.0 is, (refl, refl), ap (λ (t : List ℕ). t ++ reply) h.1 ∙ sym (append-nil reply))
replies_more old mid new (here ∷ lines) line text reply h is =
    (h.0, h.1, h.2 ++ reply, h.3, replies_more h.0 mid new lines line h.2 reply h.4 is, ap (λ (t : List ℕ). t ++ reply) h.5 ∙ append_assoc h.1 h.2 reply)

-- what is told of a line is said in its reply
pub sends_said : (old new : Service) (line : List ℕ) (told : Telling) (before behind : Option (List ℕ)) → Attends old line new told → IsSaid (IsTold told new.serving) before behind → Sends old line new before behind
sends_said old new line told before behind heard said = record {
  text = closed said.0;
  reply = record { told = told; heard = heard; lines = said.0; says = said.1; whole = refl };
  written = said.2;
}

-- or a beginning of that is
pub loses_unsaid : (old new : Service) (line : List ℕ) (told : Telling) (number : ℕ) (before behind : Option (List ℕ)) (fault : ScriptFault) → Attends old line new told → IsUnsaid (IsTold told new.serving) number before behind fault → Loses old line new number before behind fault
loses_unsaid old new line told number before behind fault heard unsaid = record {
  text = closed unsaid.0;
  reply = record { told = told; heard = heard; lines = unsaid.0; says = unsaid.1; whole = refl };
  cut = unsaid.2;
}
