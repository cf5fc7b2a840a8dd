-- The next moves of a thread, one by one.
use Rattle.std.proofs.Common.{◌≡◌, refl, sym, ap, ◌∙◌, Bool, true, false, Option, Some, None, List, [], ◌∷◌, ◌++◌, map}
use Rattle.std.specs.Borrow.{Bor}
use Rattle.mbe_rules.specs.Items.{Items, Separator, done, may_skip, variables}
use Rattle.mbe_rules.specs.Ops.{items_of}
use Rattle.mbe_rules.specs.declared.parser.RepeatKind.{RepeatKind}
use Rattle.mbe_rules.specs.declared.parser.Op.{Op}
use Rattle.mbe_rules.specs.declared.parser.Separator.{Separator as TheSeparator}
use Rattle.mbe_matcher.specs.Grammar.{Grammar}
use Rattle.mbe_matcher.specs.Paths.{when}
use Rattle.mbe_matcher.specs.Readings as r
use Rattle.mbe_matcher.specs.Threads.{Made, extended, frame_of, frames_of}
use Rattle.mbe_matcher.specs.Steps as step
use Rattle.mbe_matcher.specs.Threads as t
use Rattle.mbe_matcher.specs.Units as u
use Rattle.mbe_matcher.specs.declared.thread.Frame.{Frame}
use Rattle.mbe_matcher.specs.declared.thread.Frame.TheVariants.{InGroup, InRound, Parted}
use Rattle.mbe_matcher.specs.declared.thread.Round.{Round}
use Rattle.mbe_matcher.specs.declared.thread.Rung.{Rung}
use Rattle.mbe_matcher.specs.declared.thread.Thread.{Thread}

pub ap2 : {A B C : Type 0} (f : A → B → C) {a b : A} {x y : B} → a ≡ b → x ≡ y → f a x ≡ f b y
ap2 f e h = cc

-- after a group
pub group-next : (gr : Grammar) (p : u.Place) (h : Thread) (fs : Option (Bor Rung)) (after : Bor (List Op)) → h.items.now ≡ [] → t.frames_in h.frames ≡ InGroup after ∷ t.frames_in fs →
    r.next gr (t.state_of h p) ≡ when (u.same_unit u.closing (u.unit_at p)) (r.unit_move, r.at (items_of after.now) (frames_of fs) (u.after_unit p))
group-next gr p h fs after over f =
    ap (λ is. r.next gr (r.at (items_of is) (frames_of h.frames) p)) over
    ∙ ap (λ y. r.next gr (r.at done (map frame_of y) p)) f

-- it is no iteration
pub no-round : (f : Frame) → ((x : Round) → f ≡ InRound x → ⊥) → step.is_round f ≡ false
no-round (InGroup after) h = refl
no-round (InRound x) h = absurd (h x refl)
no-round (Parted x) h = refl

-- before a repetition
module _ (gr : Grammar) (p : u.Place) (h : Thread) (x : Round) (i : items_of h.items.now ≡ t.repetition_of x) where
  abbrev pub entered : r.Choice
  entered = (r.enter, r.at (items_of x.body.now) (frame_of (InRound x) ∷ frames_of h.frames) p)

  abbrev pub skipped : r.Choice
  skipped = (r.skip (variables (items_of x.body.now)), r.at (items_of x.after.now) (frames_of h.frames) p)

  pub repetition-next : (b : Bool) → may_skip x.kind ≡ b → r.next gr (t.state_of h p) ≡ entered ∷ when b skipped
  repetition-next b e =
      ap (λ y. r.next gr (r.at y (frames_of h.frames) p)) i
      ∙ ap (λ b. entered ∷ when b skipped) e

further-moves : (body : Items) (sep : Option Separator) (k : RepeatKind) (after : Items) (fs : List r.Frame) (p : u.Place) (b : Bool) → step.may_go_on sep k p ≡ b →
    r.round_moves body sep k after fs p ≡ when b (step.further body sep k after fs p)
further-moves body None k after fs p b e = ap (λ b. when b (step.further body None k after fs p)) e
further-moves body (Some sep) k after fs p b e = ap (λ b. when b (step.further body (Some sep) k after fs p)) e

-- after an iteration
module _ (gr : Grammar) (p : u.Place) (h : Thread) (fs : Option (Bor Rung)) (x : Round) (over : h.items.now ≡ []) (f : t.frames_in h.frames ≡ InRound x ∷ t.frames_in fs) where
  abbrev pub left : r.Choice
  left = (r.leave, r.at (items_of x.after.now) (frames_of fs) p)

  abbrev pub further : r.Choice
  further = step.further (items_of x.body.now) (t.between_of x.separator) x.kind (items_of x.after.now) (frames_of fs) p

  pub round-next : (b : Bool) → step.may_go_on (t.between_of x.separator) x.kind p ≡ b → r.next gr (t.state_of h p) ≡ when b further ++ (left ∷ [])
  round-next b e =
      ap (λ is. r.next gr (r.at (items_of is) (frames_of h.frames) p)) over
      ∙ ap (λ y. r.next gr (r.at done (map frame_of y) p)) f
      ∙ ap (λ cs. cs ++ (left ∷ [])) (further-moves (items_of x.body.now) (t.between_of x.separator) x.kind (items_of x.after.now) (frames_of fs) p b e)

-- over its separator
pub over-separator : (p : u.Place) (ms : List r.Move) (is : List Op) (frames fs : Option (Bor Rung)) (x : Round) (sep : Bor TheSeparator) →
    x.separator ≡ Some sep → is ≡ [] → t.frames_in frames ≡ Parted x ∷ t.frames_in fs →
    (let m : Made = (ms ++ (r.separator_move ∷ []), true, false, r.at (items_of is) (frames_of frames) (u.after_unit p)) in m)
    ≡ extended ms (step.further (items_of x.body.now) (t.between_of x.separator) x.kind (items_of x.after.now) (frames_of fs) p)
over-separator p ms is frames fs x sep some over f =
    let body = items_of x.body.now in
    let after = items_of x.after.now in
    let moves = ms ++ (r.separator_move ∷ []) in
    ap (λ y. let m : Made = (moves, true, false, r.at (items_of y) (frames_of frames) (u.after_unit p)) in m) over
    ∙ ap (λ y. let m : Made = (moves, true, false, r.at done (map frame_of y) (u.after_unit p)) in m) f
    ∙ ap (λ s. let m : Made = (moves, true, false, r.at done (r.parted body (t.between_of s) x.kind after ∷ frames_of fs) (u.after_unit p)) in m) some
    ∙ ap (λ s. extended ms (step.further body (t.between_of s) x.kind after (frames_of fs) p)) (sym some)

-- or into the next iteration
pub into-round : (p : u.Place) (ms : List r.Move) (frames fs : Option (Bor Rung)) (x : Round) → x.separator ≡ None → t.frames_in frames ≡ InRound x ∷ t.frames_in fs →
    (let m : Made = (ms ++ (r.next_round ∷ []), false, false, r.at (items_of x.body.now) (frames_of frames) p) in m)
    ≡ extended ms (step.further (items_of x.body.now) (t.between_of x.separator) x.kind (items_of x.after.now) (frames_of fs) p)
into-round p ms frames fs x none f =
    let body = items_of x.body.now in
    let after = items_of x.after.now in
    let moves = ms ++ (r.next_round ∷ []) in
    ap (λ y. let m : Made = (moves, false, false, r.at body (map frame_of y) p) in m) f
    ∙ ap (λ s. let m : Made = (moves, false, false, r.at body (r.in_round body (t.between_of s) x.kind after ∷ frames_of fs) p) in m) none
    ∙ ap (λ s. extended ms (step.further body (t.between_of s) x.kind after (frames_of fs) p)) (sym none)
