-- Bytes that are owed to a writer.
use Rattle.std.proofs.Common.{◌≡◌, ◌+◌, ◌≤◌, ◌<◌, ℕ, nat_lt, ltb, true, false, cond, List, [], ◌∷◌, ◌++◌, find, length, take, drop, All, Option, Some, None, refl, sym, ap, ◌∙◌, subst, append_assoc, append-nil, take-append-drop, length-take-le, length-drop, length-append, take_all, add-zero, is_some, ⊎_elim, arith}
use Rattle.std.specs.Io.KnownBytes.{Appends}
use Rattle.std.proofs.lemmas.Bool.{lt-ltb, le-ltb, cases_lt}
use Rattle.std.proofs.lemmas.List.{map-append}
use Rattle.std.proofs.lemmas.List.Elements.{All-head, All-tail, All-nil, All-push, All-weaker}
use Rattle.am_script.specs.{Mark, Owed, owed_by, bytes_of, line_of, line_at, lost_behind, owed_from, IsOwed, IsLost, StandsBy, StandsOf}
use Rattle.am_script.proofs.Writes.{appends_more, appends_none}

abbrev EndBy : ℕ → List Mark → Type 0
EndBy n marks = All (λ (mark : Mark). mark.end ≤ n) marks

-- ---- the lines of bytes

-- behind the ends of all marks
line_behind : (marks : List Mark) (line n at : ℕ) → EndBy n marks → n ≤ at → line_at marks line at ≡ line
line_behind [] line n at h le = refl
line_behind (m ∷ marks) line n at h le =
    let head : m.end ≤ n = All-head (λ (mark : Mark). mark.end ≤ n) m marks h in
    rw (le-ltb at m.end (omega (arith, head, le))) (line_behind marks line n at (All-tail (λ (mark : Mark). mark.end ≤ n) m marks h) le)

-- the last mark ends behind the place
line_before : (marks : List Mark) (last : Mark) (line at : ℕ) → at < last.end → line_at (marks ++ last ∷ []) line at ≡ line_at marks last.line at
line_before [] last line at lt = rw (lt-ltb at last.end lt) refl
line_before (m ∷ marks) last line at lt =
    elim (ltb at m.end) as (λ b. line_of line (cond b (Some m) (find (λ (mark : Mark). nat_lt at mark.end) (marks ++ last ∷ []))) ≡ line_of last.line (cond b (Some m) (find (λ (mark : Mark). nat_lt at mark.end) marks))) [
      | true ↦ refl
      | false ↦ line_before marks last line at lt
    ]

owed_behind : (marks : List Mark) (line n at : ℕ) (bytes : List ℕ) → EndBy n marks → n ≤ at → owed_from marks line at bytes ≡ owed_by line bytes
owed_behind marks line n at [] h le = refl
owed_behind marks line n at (b ∷ bytes) h le =
    rw (line_behind marks line n at h le, owed_behind marks line n (at + 1) bytes h (omega (arith, le))) refl

owed_before : (marks : List Mark) (last : Mark) (line at : ℕ) (bytes : List ℕ) → at + length bytes ≤ last.end → owed_from (marks ++ last ∷ []) line at bytes ≡ owed_from marks last.line at bytes
owed_before marks last line at [] le = refl
owed_before marks last line at (b ∷ bytes) le =
    rw (line_before marks last line at (omega (arith, le)), owed_before marks last line (at + 1) bytes (omega (arith, le))) refl

owed_parts : (marks : List Mark) (line at : ℕ) (xs ys : List ℕ) → owed_from marks line at (xs ++ ys) ≡ owed_from marks line at xs ++ owed_from marks line (at + length xs) ys
owed_parts marks line at [] ys = ap (λ (n : ℕ). owed_from marks line n ys) (sym (add-zero at))
owed_parts marks line at (x ∷ xs) ys =
    let n : (at + 1) + length xs ≡ at + length (x ∷ xs) = omega arith in
    ap (λ (t : List Owed). record { byte = x; line = line_at marks line at } ∷ t) (owed_parts marks line (at + 1) xs ys)
    ∙ ap (λ (i : ℕ). owed_from marks line at (x ∷ xs) ++ owed_from marks line i ys) n

owed_bytes : (marks : List Mark) (line at : ℕ) (bytes : List ℕ) → bytes_of (owed_from marks line at bytes) ≡ bytes
owed_bytes marks line at [] = refl
owed_bytes marks line at (b ∷ bytes) = ap (λ (t : List ℕ). b ∷ t) (owed_bytes marks line (at + 1) bytes)

-- bytes are kept behind others
pub owed_more : (marks : List Mark) (line : ℕ) (bytes more : List ℕ) → EndBy (length bytes) marks → owed_from marks line 0 (bytes ++ more) ≡ owed_from marks line 0 bytes ++ owed_by line more
owed_more marks line bytes more h =
    owed_parts marks line 0 bytes more ∙ ap (λ (t : List Owed). owed_from marks line 0 bytes ++ t) (owed_behind marks line (length bytes) (0 + length bytes) more h (omega arith))

-- a mark is set at the end of what is kept
pub owed_marked : (marks : List Mark) (last : Mark) (line : ℕ) (bytes : List ℕ) → last.end ≡ length bytes → owed_from (marks ++ last ∷ []) line 0 bytes ≡ owed_from marks last.line 0 bytes
owed_marked marks last line bytes e = owed_before marks last line 0 bytes (omega (arith, e))

-- ---- what a writer took

pub bytes_more : (xs ys : List Owed) → bytes_of (xs ++ ys) ≡ bytes_of xs ++ bytes_of ys
bytes_more xs ys = map-append (λ (o : Owed). o.byte) xs ys

-- more is put out, and kept
stands_more : (lost : Option ℕ) (owed more all : List Owed) (start held : Option (List ℕ)) → StandsBy lost owed all start held → StandsBy lost (owed ++ more) (all ++ more) start held
stands_more None owed more all start held h = record {
  front = h.front;
  parts = ap (λ (t : List Owed). t ++ more) h.parts ∙ append_assoc h.front owed more;
  written = h.written;
}
stands_more (Some line) owed more all start held h = record {
  front = h.front;
  first = h.first;
  others = h.others ++ more;
  parts = ap (λ (t : List Owed). t ++ more) h.parts ∙ append_assoc h.front (h.first ∷ h.others) more;
  line_is = h.line_is;
  written = h.written;
}

-- the writer took all that was kept
owed_taken : (marks : List Mark) (line : ℕ) (bytes : List ℕ) (all : List Owed) (start held holds : Option (List ℕ)) → IsOwed all (owed_from marks line 0 bytes) start held → Appends held holds bytes → IsOwed all [] start holds
owed_taken marks line bytes all start held holds h took = record {
  front = h.front ++ owed_from marks line 0 bytes;
  parts = h.parts ∙ sym (append-nil (h.front ++ owed_from marks line 0 bytes));
  written = rw (bytes_more h.front (owed_from marks line 0 bytes), owed_bytes marks line 0 bytes) (appends_more start held holds (bytes_of h.front) bytes h.written took);
}

lost_in : (marks : List Mark) (line at : ℕ) (front rest : List ℕ) (all : List Owed) (start held holds : Option (List ℕ)) → at ≡ length front → 0 < length rest → IsOwed all (owed_from marks line 0 (front ++ rest)) start held → Appends held holds front → IsLost all (line_at marks line at) start holds
lost_in marks line at front [] all start held holds e lt h took = absurd (omega (arith, lt))
lost_in marks line at front (b ∷ rest) all start held holds e lt h took = record {
  front = h.front ++ owed_from marks line 0 front;
  first = record { byte = b; line = line_at marks line (0 + length front) };
  others = owed_from marks line (0 + length front + 1) rest;
  parts = h.parts ∙ ap (λ (t : List Owed). h.front ++ t) (owed_parts marks line 0 front (b ∷ rest)) ∙ sym (append_assoc h.front (owed_from marks line 0 front) (owed_from marks line (0 + length front) (b ∷ rest)));
  line_is = ap (line_at marks line) (omega (arith, e));
  written = rw (bytes_more h.front (owed_from marks line 0 front), owed_bytes marks line 0 front) (appends_more start held holds (bytes_of h.front) front h.written took);
}

-- the writer took so many bytes of what was kept, and no more
owed_lost : (marks : List Mark) (line taken : ℕ) (bytes : List ℕ) (all : List Owed) (start held holds : Option (List ℕ)) → taken < length bytes → IsOwed all (owed_from marks line 0 bytes) start held → Appends held holds (take taken bytes) → IsLost all (line_at marks line taken) start holds
owed_lost marks line taken bytes all start held holds lt h took =
    lost_in marks line taken (take taken bytes) (drop taken bytes) all start held holds (omega (arith, length-take-le taken bytes (omega (arith, lt)))) (omega (arith, length-drop taken bytes, lt))
    (subst (λ (t : List ℕ). IsOwed all (owed_from marks line 0 t) start held) (sym (take-append-drop taken bytes)) h) took

-- ---- an output

unmarked : (n : ℕ) → EndBy n []
unmarked n = All-nil (λ (mark : Mark). mark.end ≤ n)

pub stands_new : (bytes : List ℕ) (marks : List Mark) (line : ℕ) (lost : Option ℕ) (start : Option (List ℕ)) → bytes ≡ [] → marks ≡ [] → lost ≡ None → StandsOf bytes marks line lost [] start start
stands_new bytes marks line lost start e f g = rw (e, f, g) (record {
  marked = unmarked 0;
  owes = record { front = []; parts = refl; written = appends_none start };
})

-- a text is kept
pub stands_put : (bytes text kept : List ℕ) (marks : List Mark) (line : ℕ) (lost : Option ℕ) (all : List Owed) (start held : Option (List ℕ)) → kept ≡ bytes ++ text → StandsOf bytes marks line lost all start held → StandsOf kept marks line lost (all ++ owed_by line text) start held
stands_put bytes text kept marks line lost all start held e h = rw e (record {
  marked = All-weaker (λ (mark : Mark). mark.end ≤ length bytes) (λ (mark : Mark). mark.end ≤ length (bytes ++ text)) (λ m le. omega (arith, le, length-append bytes text)) marks h.marked;
  owes = rw (owed_more marks line bytes text h.marked) (stands_more lost (owed_from marks line 0 bytes) (owed_by line text) all start held h.owes);
})

-- the same, where the line is known by another name
pub stands_put_at : (bytes text kept : List ℕ) (marks : List Mark) (line same : ℕ) (lost : Option ℕ) (all : List Owed) (start held : Option (List ℕ)) → line ≡ same → kept ≡ bytes ++ text → StandsOf bytes marks line lost all start held → StandsOf kept marks line lost (all ++ owed_by same text) start held
stands_put_at bytes text kept marks line same lost all start held f e h =
    subst (λ (n : ℕ). StandsOf kept marks line lost (all ++ owed_by n text) start held) f (stands_put bytes text kept marks line lost all start held e h)

-- the answer to another line begins
pub stands_marked : (bytes : List ℕ) (marks set : List Mark) (last : Mark) (line other : ℕ) (lost : Option ℕ) (all : List Owed) (start held : Option (List ℕ)) → last.end ≡ length bytes → last.line ≡ line → set ≡ marks ++ last ∷ [] → StandsOf bytes marks line lost all start held → StandsOf bytes set other lost all start held
stands_marked bytes marks set last line other lost all start held e f g h = rw g (record {
  marked = All-push (λ (mark : Mark). mark.end ≤ length bytes) marks last h.marked (omega (arith, e));
  owes = rw (owed_marked marks last other bytes e, f) h.owes;
})

-- the same, where nothing is kept
pub stands_begun : (bytes : List ℕ) (marks : List Mark) (line other : ℕ) (lost : Option ℕ) (all : List Owed) (start held : Option (List ℕ)) → bytes ≡ [] → StandsOf bytes marks line lost all start held → StandsOf bytes marks other lost all start held
stands_begun [] marks line other lost all start held e h = record { marked = h.marked; owes = h.owes }
stands_begun (b ∷ bytes) marks line other lost all start held e h = absurd cc

lost_kept : (lost : Option ℕ) (owed kept all : List Owed) (start held : Option (List ℕ)) → is_some lost ≡ true → StandsBy lost owed all start held → StandsBy lost kept all start held
lost_kept None owed kept all start held e h = absurd cc
lost_kept (Some line) owed kept all start held e h = h

-- something was lost before
pub stands_lost : (bytes kept : List ℕ) (marks set : List Mark) (line other : ℕ) (lost still : Option ℕ) (all : List Owed) (start held : Option (List ℕ)) → is_some lost ≡ true → kept ≡ [] → set ≡ [] → still ≡ lost → StandsOf bytes marks line lost all start held → StandsOf kept set other still all start held
stands_lost bytes kept marks set line other lost still all start held e f g k h = rw (f, g, k) (record {
  marked = unmarked 0;
  owes = lost_kept lost (owed_from marks line 0 bytes) [] all start held e h.owes;
})

given : (marks : List Mark) (line taken : ℕ) (bytes : List ℕ) (lost : Option ℕ) (all : List Owed) (start held holds : Option (List ℕ)) → is_some lost ≡ false → taken ≤ length bytes → StandsBy lost (owed_from marks line 0 bytes) all start held → Appends held holds (take taken bytes) → StandsBy (lost_behind marks line bytes taken) [] all start holds
given marks line taken bytes (Some at) all start held holds e le h took = absurd cc
given marks line taken bytes None all start held holds e le h took =
    ⊎_elim (λ lt. rw (lt-ltb taken (length bytes) lt) (owed_lost marks line taken bytes all start held holds lt h took))
    (λ ge. rw (le-ltb taken (length bytes) ge) (owed_taken marks line bytes all start held holds h (subst (λ (t : List ℕ). Appends held holds t) (take_all taken bytes (omega (arith, ge))) took)))
    (cases_lt taken (length bytes))

-- what was kept is given to the writer
pub stands_given : (bytes kept : List ℕ) (marks set : List Mark) (line other taken : ℕ) (lost now : Option ℕ) (all : List Owed) (start held holds : Option (List ℕ)) → is_some lost ≡ false → taken ≤ length bytes → kept ≡ [] → set ≡ [] → now ≡ lost_behind marks line bytes taken → Appends held holds (take taken bytes) → StandsOf bytes marks line lost all start held → StandsOf kept set other now all start holds
stands_given bytes kept marks set line other taken lost now all start held holds e le f g k took h = rw (f, g, k) (record {
  marked = unmarked 0;
  owes = given marks line taken bytes lost all start held holds e le h.owes took;
})

-- a text that isn't kept, behind something that was lost
pub stands_dropped : (bytes text : List ℕ) (marks : List Mark) (line : ℕ) (lost : Option ℕ) (all : List Owed) (start held : Option (List ℕ)) → is_some lost ≡ true → StandsOf bytes marks line lost all start held → StandsOf bytes marks line lost (all ++ owed_by line text) start held
stands_dropped bytes text marks line lost all start held e h = record {
  marked = h.marked;
  owes = lost_kept lost (owed_from marks line 0 bytes ++ owed_by line text) (owed_from marks line 0 bytes) (all ++ owed_by line text) start held e (stands_more lost (owed_from marks line 0 bytes) (owed_by line text) all start held h.owes);
}

-- a text that the writer takes at once
passed : (bytes text : List ℕ) (marks : List Mark) (line taken : ℕ) (lost : Option ℕ) (all : List Owed) (start held holds : Option (List ℕ)) → is_some lost ≡ false → bytes ≡ [] → taken ≤ length text → Appends held holds (take taken text) → StandsOf bytes marks line lost all start held → StandsBy (lost_behind [] line text taken) [] (all ++ owed_by line text) start holds
passed bytes text marks line taken lost all start held holds e f le took h =
    let none : owed_from marks line 0 bytes ≡ [] = ap (owed_from marks line 0) f in
    let put = stands_more lost [] (owed_by line text) all start held (subst (λ (o : List Owed). StandsBy lost o all start held) none h.owes) in
    given [] line taken text lost (all ++ owed_by line text) start held holds e le (rw (owed_behind [] line 0 0 text (unmarked 0) (omega arith)) put) took

pub stands_passed : (bytes text : List ℕ) (marks : List Mark) (line taken : ℕ) (lost : Option ℕ) (all : List Owed) (start held holds : Option (List ℕ)) → is_some lost ≡ false → bytes ≡ [] → taken ≤ length text → length text ≤ taken → Appends held holds (take taken text) → StandsOf bytes marks line lost all start held → StandsOf bytes marks line lost (all ++ owed_by line text) start holds
stands_passed bytes text marks line taken (Some at) all start held holds e f le ge took h = absurd cc
stands_passed bytes text marks line taken None all start held holds e f le ge took h =
    let owes : StandsBy (lost_behind [] line text taken) [] (all ++ owed_by line text) start holds = passed bytes text marks line taken None all start held holds e f le took h in
    record {
      marked = h.marked;
      owes = rw f (rw (le-ltb taken (length text) ge) at owes);
    }

pub stands_cut : (bytes text : List ℕ) (marks : List Mark) (line taken : ℕ) (lost : Option ℕ) (all : List Owed) (start held holds : Option (List ℕ)) → is_some lost ≡ false → bytes ≡ [] → taken < length text → Appends held holds (take taken text) → StandsOf bytes marks line lost all start held → StandsOf bytes marks line (Some line) (all ++ owed_by line text) start holds
stands_cut bytes text marks line taken lost all start held holds e f lt took h =
    let owes : StandsBy (lost_behind [] line text taken) [] (all ++ owed_by line text) start holds = passed bytes text marks line taken lost all start held holds e f (omega (arith, lt)) took h in
    record {
      marked = h.marked;
      owes = rw (lt-ltb taken (length text) lt) at owes;
    }
