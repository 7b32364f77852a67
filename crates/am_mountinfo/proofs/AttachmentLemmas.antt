-- The attachments so far are kept.
use Rattle.std.proofs.Common.{◌≡◌, ◌+◌, ◌<◌, ℕ, Bool, List, [], ◌∷◌, ◌++◌, Option, None, Some, length, take, find, if◌then◌else◌, get_or, sym, ap, ◌∙◌}
use Rattle.std.specs.Option.{option_or}
use Rattle.std.proofs.lemmas.List.Folds.{find-append}
use Rattle.std.proofs.lemmas.List.{take_more}
use Rattle.am_kernel.specs.declared.row.Attached.{Attached}
use Rattle.am_mountinfo.specs.{AreAttachments, HasOneAttachmentMore, is_of_fs}
use Rattle.am_mountinfo.specs.declared.attachments.Attachments.{Attachments}

-- one more is kept, the next
pub one_attachment_more : (old new : Attachments) (rows : List Attached) (i : ℕ) (row : Attached) → i < length rows → row ≡ get_or rows i row → AreAttachments old (take i rows) → HasOneAttachmentMore row old new → AreAttachments new (take (i + 1) rows)
one_attachment_more old new rows i row within here h more fs =
    more fs ∙ ap (λ (o : Option Attached). option_or o (find (is_of_fs fs) (row ∷ []))) (h fs)
    ∙ sym (find-append (is_of_fs fs) (take i rows) (row ∷ []))
    ∙ ap (find (is_of_fs fs)) (ap (λ (r : Attached). take i rows ++ r ∷ []) here ∙ sym (take_more rows i row within))
