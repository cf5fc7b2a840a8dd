-- The page of a reply to a text.
use Rattle.std.specs.Prelude.{◌≡◌, ℕ, ◌≤◌, ◌^◌, List, [], ◌∷◌, Option, Some, None, if◌then◌else◌}
use Rattle.std.specs.Prelude.{length, map, nat_eq, string_bytes}
use Rattle.expander_model.specs.declared.fault.Fault.{Fault}
use Rattle.expander_run.specs.Lines.{fault_words, line_of, read_fault_words}
use Rattle.expander_run.specs.expander_session.Expanded.{Expanded}
use Rattle.expander_run.specs.expander_session.declared.session.Reply.{Reply}
use Rattle.expander_run.specs.expander_session.declared.session.Reply.TheVariants.{Read, Unread}
use Rattle.expansion_page.specs.declared.frame.TheConstants.{COUNTS, EXPANSION, FAULTS, FOOT, HEAD}
use Rattle.expansion_page.specs.declared.frame.TheConstants.{HEADING, SOURCE, UNREAD}
use Rattle.html_code.specs.PageParts.{IsPage}
use Rattle.html_code.specs.declared.origin.Origin.{Origin}
use Rattle.html_code.specs.declared.origin.Origin.TheVariants.{Own, Other}
use Rattle.html_code.specs.declared.page.Frame.{Frame}
use Rattle.html_code.specs.declared.page.Printed.{Printed}
use Rattle.html_code.specs.declared.page.Shown.{Shown}
use Rattle.tt_data.specs.declared.span.TextRange.{TextRange}

-- the line that a run reports for a fault
abbrev pub fault_line : List ℕ → Fault → List ℕ
fault_line text f = line_of text f.range.start (fault_words f.kind)

-- where the faults of a reply begin
abbrev pub fault_starts : Reply → List ℕ
fault_starts (Read e) = map (λ f. f.range.start) e.faults
fault_starts (Unread f) = f.range.start ∷ []

-- the lines that a run reports for them
abbrev pub fault_lines : List ℕ → Reply → List (List ℕ)
fault_lines text (Read e) = map (fault_line text) e.faults
fault_lines text (Unread f) = line_of text f.range.start (read_fault_words f.kind) ∷ []

-- where a printed token comes from: of the text on the page, number 0, the start, and of another
-- text its number and the bytes
abbrev pub shown_origin : ℕ → TextRange → Origin
shown_origin text r = if nat_eq text 0 then Own r.start else Other text r.start r.«end»

-- where each of them comes from
abbrev pub shown_origins : List TextRange → List ℕ → List Origin
shown_origins [] texts = []
shown_origins (r ∷ rs) [] = []
shown_origins (r ∷ rs) (t ∷ ts) = shown_origin t r ∷ shown_origins rs ts

pub record IsPrinted (names : List (List ℕ)) (e : Expanded) (printed : Printed) : Type 0 where
  pub text : printed.text.now ≡ e.printed
  pub origins : printed.origins.now ≡ shown_origins e.origins e.texts
  pub are_names : map string_bytes printed.names.now ≡ names
  pub expanded : printed.expanded ≡ e.expanded

-- an expansion is shown if its printed text has at most `u32::MAX` bytes, with these names of
-- sources
abbrev pub ShowsReply : List (List ℕ) → Reply → Option Printed → Type 0
ShowsReply names (Read e) (Some printed) = IsPrinted names e printed
ShowsReply names (Read e) None = 2 ^ 32 ≤ length e.printed
ShowsReply names (Unread f) None = Unit {0}
ShowsReply names (Unread f) (Some printed) = ⊥

-- the frame of each page: constants of this crate, so nothing of a title or a text is in it
pub record IsFrame (frame : Frame) : Type 0 where
  pub head : frame.head.now ≡ HEAD.now
  pub heading : frame.heading.now ≡ HEADING.now
  pub counts : frame.counts.now ≡ COUNTS.now
  pub source : frame.source.now ≡ SOURCE.now
  pub expansion : frame.expansion.now ≡ EXPANSION.now
  pub unread : frame.unread.now ≡ UNREAD.now
  pub faults : frame.faults.now ≡ FAULTS.now
  pub foot : frame.foot.now ≡ FOOT.now

-- the page that shows this, in that frame
pub record IsFramed (page : Shown) (html : List ℕ) : Type 0 where
  pub frame : Frame
  pub is_frame : IsFrame frame
  pub is_page : IsPage frame page html

-- the page of a reply to a text, where the sources have these names
pub record IsNamedReplyPage (names : List (List ℕ)) (title text : List ℕ) (reply : Reply)
    (html : List ℕ) : Type 0 where
  pub page : Shown
  pub has_title : page.title.now ≡ title
  pub has_text : page.text.now ≡ text
  pub has_starts : map (λ m. m.start) page.faults.now ≡ fault_starts reply
  pub has_lines : map (λ m. m.told.now) page.faults.now ≡ fault_lines text reply
  pub has_printed : ShowsReply names reply page.printed
  pub is_framed : IsFramed page html

-- the same where they have none
abbrev pub IsReplyPage : (title text : List ℕ) → Reply → (html : List ℕ) → Type 0
IsReplyPage title text reply html = IsNamedReplyPage [] title text reply html
