-- Steps of a walk lead from one state to the next.
use Rattle.std.proofs.Common.{Global, ◌≡◌, ℕ, ◌+◌, ◌-◌, ◌<◌, ◌^◌, Bool, true, false, Option, Some, None, List, [], ◌∷◌, ◌++◌, length, map, sym, ap, ◌∙◌, refl, arith, append_assoc, append-nil, subst}
use Rattle.std.specs.Prelude.{Vec, nat_eq, ◌||◌, option_and_then}
use Rattle.std.specs.List.{list_any, slice_get}
use Rattle.std.specs.Bool.{nat_lt}
use Rattle.std.proofs.lemmas.Option.{slice_get_within}
use Rattle.std.proofs.lemmas.Bool.{false≢true}
use Rattle.crate_walk.specs.Files.{Files, event_in, events_of}
use Rattle.crate_walk.specs.Folders.{Folder, root_folder}
use Rattle.crate_walk.specs.Frames.{Advances, AreRead, Completes, GoesOn, IsEntry, IsNext, IsNextOf, IsTurn, Leads, Starts, Turns, at_next, behind_inline, behind_next, file_frame, here_of, inline_frame, measure_of}
use Rattle.crate_walk.specs.Seeking.{Finding, IsSought, ambiguous, found, missing, seen}
use Rattle.crate_walk.specs.Tables.{AreMore, IsTable}
use Rattle.crate_walk.specs.Files.{files_in}
use Rattle.crate_walk.specs.Walks.{Here, IsFile, IsLacking, IsWalk, Lacks, Walks, end_of, entered, in_module, is_cut, is_item}
use Rattle.crate_walk.specs.Walks.Walks.{ends, item, inline, file, passed}
use Rattle.crate_walk.specs.declared.files.Content.{Content}
use Rattle.crate_walk.specs.declared.event.Event.{Event}
use Rattle.crate_walk.specs.declared.event.Event.TheVariants as event
use Rattle.crate_walk.specs.declared.event.ModuleItem.{ModuleItem}
use Rattle.crate_walk.specs.declared.next.Next.{Next}
use Rattle.crate_walk.specs.declared.next.Next.TheVariants as next
use Rattle.crate_walk.specs.declared.progress.Frame.{Frame}
use Rattle.crate_walk.specs.declared.progress.Progress.{Progress}
use Rattle.crate_walk.specs.declared.sought.Sought.{Sought}
use Rattle.crate_walk.specs.declared.walk.Entry.TheVariants as entry
use Rattle.crate_walk.specs.declared.step.Lack.{Lack}
use Rattle.crate_walk.specs.declared.step.Lack.TheVariants as lack
use Rattle.crate_walk.specs.declared.step.Place.{Place}
use Rattle.crate_walk.specs.declared.step.Step.{Step}
use Rattle.crate_walk.specs.declared.step.Step.TheVariants as step

-- an event of a file that was read stays
event_same : (old new : Files) → AreMore old new → (k i j : ℕ) → k < length old.contents
    → event_in new k i j ≡ event_in old k i j
event_same old new more k i j lt =
    ap (λ (o : Option Content). Rattle.std.specs.Prelude.if◌then◌else◌ (nat_lt i j) (option_and_then (λ c. slice_get (events_of c) i) o) None) (more.contents k lt)

-- the same files
same_files : (files : Files) → AreMore files files
same_files files = record {
  names = λ k n h. h;
  contents = λ k lt. refl;
  count = omega arith;
}

-- later files than later ones
more_after : (a b c : Files) → AreMore a b → AreMore b c → AreMore a c
more_after a b c p q = record {
  names = λ k n h. q.names k n (p.names k n h);
  contents = λ k lt. q.contents k (omega (arith, p.count)) ∙ p.contents k lt;
  count = omega (arith, p.count, q.count);
}

-- the same step, with what the frames and the number are equal to
goes_as : (old new : Progress) (s : Step) (b begun : List Frame) (n count : ℕ)
    → b ≡ begun → n ≡ count → GoesOn old new s b n → GoesOn old new s begun count
goes_as old new s b begun n count e f goes = record {
  steps = goes.steps;
  frames = goes.frames ∙ e;
  table = goes.table;
  left = goes.left ∙ f;
  counted = rw (sym e) goes.counted;
}

-- a part of a list is there only before the end
event_before : (files : Files) (k i j : ℕ) (e : Event) → event_in files k i j ≡ Some e → i < j
event_before files k i j e at = grind (arith, at)

-- the files of frames are among later ones
read_more : (old new : Files) → AreMore old new → (fs : List Frame) → AreRead old fs → AreRead new fs
read_more old new more [] h = tt
read_more old new more (f ∷ fs) h = (omega (arith, more.count, h.0), read_more old new more fs h.1)

-- frames that are in a file, by the numbers of their files
pub any_file : (k : ℕ) (fs : List Frame)
    → list_any (λ n. nat_eq n k) (map (λ (g : Frame). g.file) fs) ≡ list_any (λ (g : Frame). nat_eq g.file k) fs
any_file k [] = refl
any_file k (f ∷ fs) = ap (λ (b : Bool). nat_eq f.file k || b) (any_file k fs)

-- files that are entered first and then
entered-append : (a b : List Step) → entered (a ++ b) ≡ entered a + entered b
entered-append [] b = omega arith
entered-append (step.File p k ∷ a) b = omega (arith, entered-append a b)
entered-append (step.Item p ∷ a) b = entered-append a b
entered-append (step.Inline p ∷ a) b = entered-append a b
entered-append (step.Lack p why ∷ a) b = entered-append a b
entered-append (step.End ∷ a) b = entered-append a b

-- a module is passed over first or then
is_cut-append : (a b : List Step) → is_cut (a ++ b) ≡ (is_cut a || is_cut b)
is_cut-append [] b = refl
is_cut-append (step.Lack p lack.TooMany ∷ a) b = refl
is_cut-append (step.Lack p lack.Missing ∷ a) b = is_cut-append a b
is_cut-append (step.Lack p lack.Ambiguous ∷ a) b = is_cut-append a b
is_cut-append (step.Lack p (lack.Cycle k) ∷ a) b = is_cut-append a b
is_cut-append (step.Lack p (lack.Unread k) ∷ a) b = is_cut-append a b
is_cut-append (step.File p k ∷ a) b = is_cut-append a b
is_cut-append (step.Item p ∷ a) b = is_cut-append a b
is_cut-append (step.Inline p ∷ a) b = is_cut-append a b
is_cut-append (step.End ∷ a) b = is_cut-append a b

-- no more files may be entered once a module was passed over for that
cut_further : (a b : List Step) (q r n : ℕ) → (is_cut a ≡ true → q ≡ 0) → (is_cut b ≡ true → r ≡ 0)
    → r + n ≡ q → is_cut (a ++ b) ≡ true → r ≡ 0
cut_further a b q r n first then sum is =
    let either : (is_cut a || is_cut b) ≡ true = sym (is_cut-append a b) ∙ is in
    grind (arith, first, then, either)

module _ (finds : List ℕ → Option (List ℕ) → Type 0) where
  -- what comes next at an event comes next in the frame
  pub next_from : (files : Files) (f : Frame) (e : Event) (n : Next)
      → event_in files f.file f.next f.last ≡ Some e → IsNextOf finds f.folder e n
      → IsNext finds files f n
  next_from files f e next.End at h = absurd h
  next_from files f e next.Item at h = (e, at, h)
  next_from files f e next.TooMany at h = (e, at, h)
  next_from files f e (next.Inline inner n) at h = (e, at, h)
  next_from files f e (next.Outline s) at h = (e, at, h)

  -- a module ends
  leads_end : (files : Files) (f : Frame) (fs : List Frame)
      → event_in files f.file f.next f.last ≡ None
      → Leads finds (f ∷ fs) fs (step.End ∷ []) files
  leads_end files f fs none = λ rest done.
      ([], rest, ends (here_of f fs) f.next f.last none, refl, done)

  -- an item that is no module
  leads_item : (files : Files) (f : Frame) (fs : List Frame) (e : Event)
      → event_in files f.file f.next f.last ≡ Some e → is_item e ≡ true
      → Leads finds (f ∷ fs) (behind_next f ∷ fs) (step.Item (at_next f) ∷ []) files
  leads_item files f fs e at is = λ rest done. (
    step.Item (at_next f) ∷ done.0,
    done.1,
    item (here_of f fs) f.next f.last e done.0 at is done.2,
    ap (λ (x : List Step). step.Item (at_next f) ∷ x) done.3,
    done.4,
  )

  -- a module that is passed over
  leads_over : (files : Files) (f : Frame) (fs : List Frame) (m : ModuleItem) (why : Lack)
      → event_in files f.file f.next f.last ≡ Some (event.Outline m)
      → Lacks finds files (here_of f fs) m why
      → Leads finds (f ∷ fs) (behind_next f ∷ fs) (step.Lack (at_next f) why ∷ []) files
  leads_over files f fs m why at is = λ rest done. (
    step.Lack (at_next f) why ∷ done.0,
    done.1,
    passed (here_of f fs) f.next f.last m why done.0 at is done.2,
    ap (λ (x : List Step). step.Lack (at_next f) why ∷ x) done.3,
    done.4,
  )

  -- the steps of a module, its end, and those behind it
  entered_module : (s : Step) (rest inner between after rest2 : List Step)
      → rest ≡ inner ++ step.End ∷ between → between ≡ after ++ step.End ∷ rest2
      → s ∷ rest ≡ (s ∷ (inner ++ step.End ∷ after)) ++ step.End ∷ rest2
  entered_module s rest inner between after rest2 e f =
      ap (λ (x : List Step). s ∷ x) (e ∙ (ap (λ (x : List Step). inner ++ step.End ∷ x) f ∙ sym (append_assoc inner (step.End ∷ after) (step.End ∷ rest2))))

  -- an inline module
  leads_inline : (files : Files) (f : Frame) (fs : List Frame) (m : ModuleItem) (n : ℕ) (folder : Folder)
      → event_in files f.file f.next f.last ≡ Some (event.Inline m n)
      → folder ≡ (in_module (here_of f fs) m).folder
      → Leads finds (f ∷ fs) (inline_frame f folder n ∷ (behind_inline f n ∷ fs)) (step.Inline (at_next f) ∷ []) files
  leads_inline files f fs m n folder at is = λ rest done.
      let walks : Walks finds files (in_module (here_of f fs) m) (f.next + 1) (end_of f.next n f.last) done.0 =
      subst (λ (g : Folder). Walks finds files (record { file = f.file; folder = g; around = f.file ∷ map (λ (g : Frame). g.file) fs }) (f.next + 1) (end_of f.next n f.last) done.0) is done.2 in (
        step.Inline (at_next f) ∷ (done.0 ++ step.End ∷ done.4.0),
        done.4.1,
        inline (here_of f fs) f.next f.last m n done.0 done.4.0 at walks done.4.2,
        entered_module (step.Inline (at_next f)) rest done.0 done.1 done.4.0 done.4.1 done.3 done.4.3,
        done.4.4,
      )

  -- a module in a file of its own
  leads_file : (files : Files) (f : Frame) (fs : List Frame) (m : ModuleItem) (k : ℕ) (folder : Folder) (c : Content)
      → event_in files f.file f.next f.last ≡ Some (event.Outline m)
      → IsFile finds files (here_of f fs) m k folder c
      → Leads finds (f ∷ fs) (file_frame k folder (length (events_of c)) ∷ (behind_next f ∷ fs)) (step.File (at_next f) k ∷ []) files
  leads_file files f fs m k folder c at is = λ rest done. (
    step.File (at_next f) k ∷ (done.0 ++ step.End ∷ done.4.0),
    done.4.1,
    file (here_of f fs) f.next f.last m k folder c done.0 done.4.0 at is done.2 done.4.2,
    entered_module (step.File (at_next f) k) rest done.0 done.1 done.4.0 done.4.1 done.3 done.4.3,
    done.4.4,
  )

  module _ (reads : List ℕ → Content → Type 0) where
    -- a step was made from a state in which only files were read since an earlier one
    pub turned : (old mid new : Progress) (fs begun : List Frame) (s : Step) (count : ℕ)
        → mid ≡ record old { table = mid.table }
        → AreMore (files_in old.table) (files_in mid.table)
        → IsTable reads (files_in mid.table)
        → GoesOn mid new s begun count
        → AreRead (files_in mid.table) begun
        → ((files : Files) → AreMore (files_in mid.table) files → Leads finds fs begun (s ∷ []) files)
        → measure_of count begun < measure_of old.left fs
        → count + entered (s ∷ []) ≡ old.left
        → (is_cut (s ∷ []) ≡ true → count ≡ 0)
        → Turns finds reads fs old new
    turned old mid new fs begun s count same more right goes read leads less sum cut = record {
      advances = record {
        made = s ∷ [];
        steps = goes.steps ∙ ap (λ (p : Progress). p.steps.items ++ s ∷ []) same;
        more = rw goes.table more;
        read = rw (goes.table, goes.frames) read;
        leads = λ files m. rw goes.frames (leads files (rw goes.table at m));
        count = ap (λ (x : ℕ). x + entered (s ∷ [])) goes.left ∙ sum;
        cut = λ is. goes.left ∙ cut is;
      };
      right = rw goes.table right;
      counted = rw goes.frames goes.counted;
      less = rw (goes.frames, goes.left) less;
    }

    -- a module ends
    pub turn_end : (old new : Progress) (f : Frame) → IsTable reads (files_in old.table)
        → AreRead (files_in old.table) (f ∷ old.frames.items)
        → event_in (files_in old.table) f.file f.next f.last ≡ None
        → GoesOn old new step.End old.frames.items old.left
        → Turns finds reads (f ∷ old.frames.items) old new
    turn_end old new f right read none goes =
        turned old old new (f ∷ old.frames.items) old.frames.items step.End old.left refl
        (same_files (files_in old.table)) right goes read.1
        (λ files more. leads_end files f old.frames.items (event_same (files_in old.table) files more f.file f.next f.last read.0 ∙ none))
        (omega arith) (omega arith) (λ no. cc)

    -- an item that is no module is passed
    pub turn_item : (old new : Progress) (f : Frame) → IsTable reads (files_in old.table)
        → AreRead (files_in old.table) (f ∷ old.frames.items)
        → IsNext finds (files_in old.table) f next.Item
        → GoesOn old new (step.Item (at_next f)) (behind_next f ∷ old.frames.items) old.left
        → Turns finds reads (f ∷ old.frames.items) old new
    turn_item old new f right read comes goes =
        let lt : f.next < f.last = event_before (files_in old.table) f.file f.next f.last comes.0 comes.1 in
        turned old old new (f ∷ old.frames.items) (behind_next f ∷ old.frames.items) (step.Item (at_next f)) old.left refl
        (same_files (files_in old.table)) right goes read
        (λ files more. leads_item files f old.frames.items comes.0
        (event_same (files_in old.table) files more f.file f.next f.last read.0 ∙ comes.1) comes.2)
        (omega arith) (omega arith) (λ no. cc)

    -- an inline module is entered
    pub turn_inline : (old new : Progress) (f : Frame) (folder : Folder) (n : ℕ)
        → IsTable reads (files_in old.table)
        → AreRead (files_in old.table) (f ∷ old.frames.items)
        → IsNext finds (files_in old.table) f (next.Inline folder n)
        → GoesOn old new (step.Inline (at_next f))
        (inline_frame f folder n ∷ (behind_inline f n ∷ old.frames.items)) old.left
        → Turns finds reads (f ∷ old.frames.items) old new
    turn_inline old new f folder n right read (e, at, (m, is, inner)) goes =
        let lt : f.next < f.last = event_before (files_in old.table) f.file f.next f.last e at in
        turned old old new (f ∷ old.frames.items) (inline_frame f folder n ∷ (behind_inline f n ∷ old.frames.items)) (step.Inline (at_next f)) old.left refl
        (same_files (files_in old.table)) right goes (read.0, (read.0, read.1))
        (λ files more. leads_inline files f old.frames.items m n folder
        (event_same (files_in old.table) files more f.file f.next f.last read.0 ∙ (at ∙ ap Some is)) inner)
        (omega arith) (omega arith) (λ no. cc)

    -- a module in a file of its own is passed over, since no more files may be entered
    pub turn_full : (old new : Progress) (f : Frame) → IsTable reads (files_in old.table)
        → AreRead (files_in old.table) (f ∷ old.frames.items)
        → IsNext finds (files_in old.table) f next.TooMany
        → old.left ≡ 0
        → GoesOn old new (step.Lack (at_next f) lack.TooMany) (behind_next f ∷ old.frames.items) old.left
        → Turns finds reads (f ∷ old.frames.items) old new
    turn_full old new f right read (e, at, (m, is)) none goes =
        let lt : f.next < f.last = event_before (files_in old.table) f.file f.next f.last e at in
        turned old old new (f ∷ old.frames.items) (behind_next f ∷ old.frames.items) (step.Lack (at_next f) lack.TooMany) old.left refl
        (same_files (files_in old.table)) right goes read
        (λ files more. leads_over files f old.frames.items m lack.TooMany
        (event_same (files_in old.table) files more f.file f.next f.last read.0 ∙ (at ∙ ap Some is)) tt)
        (omega arith) (omega arith) (λ is. none)

    -- why a module has no file stays so when more files were read
    lacks_more : (old new : Files) → AreMore old new → (h : Here) (s : Finding) (why : Lack)
        → IsLacking finds old h s why → IsLacking finds new h s why
    lacks_more old new more h missing lack.Missing is = tt
    lacks_more old new more h ambiguous lack.Ambiguous is = tt
    lacks_more old new more h (found name folder) (lack.Cycle k) is = (more.names k name is.0, is.1)
    lacks_more old new more h (found name folder) (lack.Unread k) (named, (c, at, unread)) = (
      more.names k name named,
      (c, more.contents k (slice_get_within old.contents k c at) ∙ at, unread),
    )
    lacks_more old new more h s why is = absurd is

    -- it is not for the number of files
    is_no_cut : (files : Files) (h : Here) (p : Place) (s : Finding) (why : Lack)
        → IsLacking finds files h s why → is_cut (step.Lack p why ∷ []) ≡ false
    is_no_cut files h p missing lack.TooMany is = absurd is
    is_no_cut files h p ambiguous lack.TooMany is = absurd is
    is_no_cut files h p (found name folder) lack.TooMany is = absurd is
    is_no_cut files h p s lack.Missing is = refl
    is_no_cut files h p s lack.Ambiguous is = refl
    is_no_cut files h p s (lack.Cycle k) is = refl
    is_no_cut files h p s (lack.Unread k) is = refl

    -- such a module is passed over
    is_passed : (files : Files) (h : Here) (m : ModuleItem) (s : Finding) (why : Lack)
        → IsSought finds h.folder m s → IsLacking finds files h s why → Lacks finds files h m why
    is_passed files h m s lack.TooMany sought is = tt
    is_passed files h m s lack.Missing sought is = (s, sought, is)
    is_passed files h m s lack.Ambiguous sought is = (s, sought, is)
    is_passed files h m s (lack.Cycle k) sought is = (s, sought, is)
    is_passed files h m s (lack.Unread k) sought is = (s, sought, is)

    -- a module in a file of its own is passed over
    pub turn_over : (old mid new : Progress) (f : Frame) (s : Sought) (why : Lack)
        → IsNext finds (files_in old.table) f (next.Outline s)
        → AreRead (files_in old.table) (f ∷ old.frames.items)
        → mid ≡ record old { table = mid.table }
        → AreMore (files_in old.table) (files_in mid.table)
        → IsTable reads (files_in mid.table)
        → IsLacking finds (files_in mid.table) (here_of f old.frames.items) (seen s) why
        → GoesOn mid new (step.Lack (at_next f) why) (behind_next f ∷ mid.frames.items) mid.left
        → Turns finds reads (f ∷ old.frames.items) old new
    turn_over old mid new f s why (e, at, (m, is, sought)) read same more right lacking goes =
        let lt : f.next < f.last = event_before (files_in old.table) f.file f.next f.last e at in
        let begun : mid.frames.items ≡ old.frames.items = ap (λ (p : Progress). p.frames.items) same in
        let left : mid.left ≡ old.left = ap (λ (p : Progress). p.left) same in
        turned old mid new (f ∷ old.frames.items) (behind_next f ∷ old.frames.items) (step.Lack (at_next f) why) old.left same
        more right (goes_as mid new (step.Lack (at_next f) why) (behind_next f ∷ mid.frames.items) (behind_next f ∷ old.frames.items) mid.left old.left (ap (λ (x : List Frame). behind_next f ∷ x) begun) left goes)
        (read_more (files_in old.table) (files_in mid.table) more (behind_next f ∷ old.frames.items) read)
        (λ files later. leads_over files f old.frames.items m why
        (event_same (files_in mid.table) files later f.file f.next f.last (omega (arith, more.count, read.0)) ∙ (event_same (files_in old.table) (files_in mid.table) more f.file f.next f.last read.0 ∙ (at ∙ ap Some is)))
        (is_passed files (here_of f old.frames.items) m (seen s) why sought (lacks_more (files_in mid.table) files later (here_of f old.frames.items) (seen s) why lacking)))
        (omega arith) (omega arith) (λ is. absurd (false≢true (sym (is_no_cut (files_in mid.table) (here_of f old.frames.items) (at_next f) (seen s) why lacking) ∙ is)))

    -- a file is entered
    pub turn_file : (old mid new : Progress) (f : Frame) (s : Sought) (k n : ℕ) (folder : Folder)
        → IsNext finds (files_in old.table) f (next.Outline s)
        → AreRead (files_in old.table) (f ∷ old.frames.items)
        → 0 < old.left → n < 2 ^ 64
        → mid ≡ record old { table = mid.table }
        → AreMore (files_in old.table) (files_in mid.table)
        → IsTable reads (files_in mid.table)
        → IsEntry finds (files_in mid.table) (here_of f old.frames.items) (seen s) (entry.File k n folder)
        → GoesOn mid new (step.File (at_next f) k) (file_frame k folder n ∷ (behind_next f ∷ mid.frames.items)) (mid.left - 1)
        → Turns finds reads (f ∷ old.frames.items) old new
    turn_file old mid new f s k n folder (e, at, (m, is, sought)) read some small same more right (name, c, sees, named, content, text, count, fresh) goes =
        let lt : f.next < f.last = event_before (files_in old.table) f.file f.next f.last e at in
        let begun : mid.frames.items ≡ old.frames.items = ap (λ (p : Progress). p.frames.items) same in
        let left : mid.left ≡ old.left = ap (λ (p : Progress). p.left) same in
        let known : k < length mid.table.contents.items = slice_get_within mid.table.contents.items k c content in
        turned old mid new (f ∷ old.frames.items) (file_frame k folder n ∷ (behind_next f ∷ old.frames.items)) (step.File (at_next f) k) (old.left - 1) same
        more right (goes_as mid new (step.File (at_next f) k) (file_frame k folder n ∷ (behind_next f ∷ mid.frames.items)) (file_frame k folder n ∷ (behind_next f ∷ old.frames.items)) (mid.left - 1) (old.left - 1) (ap (λ (x : List Frame). file_frame k folder n ∷ (behind_next f ∷ x)) begun) (ap (λ (x : ℕ). x - 1) left) goes)
        (known, read_more (files_in old.table) (files_in mid.table) more (behind_next f ∷ old.frames.items) read)
        (λ files later. subst (λ (x : ℕ). Leads finds (f ∷ old.frames.items) (file_frame k folder x ∷ (behind_next f ∷ old.frames.items)) (step.File (at_next f) k ∷ []) files) (sym count)
        (leads_file files f old.frames.items m k folder c
        (event_same (files_in mid.table) files later f.file f.next f.last (omega (arith, more.count, read.0)) ∙ (event_same (files_in old.table) (files_in mid.table) more f.file f.next f.last read.0 ∙ (at ∙ ap Some is)))
        (record {
          name = name;
          sought = subst (IsSought finds f.folder m) sees sought;
          named = later.names k name named;
          content = later.contents k known ∙ content;
          is_read = text;
          is_new = fresh;
        })))
        (omega arith) (omega arith) (λ no. cc)

    -- nothing was done
    pub stays : (p : Progress) → AreRead (files_in p.table) p.frames.items
        → Advances finds p.frames.items p p
    stays p read = record {
      made = [];
      steps = sym (append-nil p.steps.items);
      more = same_files (files_in p.table);
      read = read;
      leads = λ files m rest done. done;
      count = omega arith;
      cut = λ no. cc;
    }

    -- one state leads to a second, and that to a third
    pub goes_further : (begun : List Frame) (p q r : Progress) → Advances finds begun p q
        → Advances finds q.frames.items q r → Advances finds begun p r
    goes_further begun p q r a b = record {
      made = a.made ++ b.made;
      steps = b.steps ∙ (ap (λ (x : List Step). x ++ b.made) a.steps ∙ append_assoc p.steps.items a.made b.made);
      more = more_after (files_in p.table) (files_in q.table) (files_in r.table) a.more b.more;
      read = b.read;
      count = rw (entered-append a.made b.made) (omega (arith, a.count, b.count));
      cut = λ is. cut_further a.made b.made q.left r.left (entered b.made) a.cut b.cut b.count is;
      leads = λ files m rest done.
          subst (Completes finds files begun) (sym (append_assoc a.made b.made rest))
          (a.leads files (more_after (files_in q.table) (files_in r.table) files b.more m) (b.made ++ rest) (b.leads files m rest done));
    }

    -- all modules had ended, so nothing was done
    pub is_over : (old new : Progress) → IsTurn finds reads old new false
        → Advances finds old.frames.items old new
    is_over old new (was, is, steps, table, left) = record {
      made = [];
      steps = ap (λ (x : Vec Step Global). x.items) steps ∙ sym (append-nil old.steps.items);
      more = rw table (same_files (files_in old.table));
      read = rw is tt;
      leads = λ files m rest done. rw was (rw is at done);
      count = rw left (omega arith);
      cut = λ no. cc;
    }

    -- a walk that began at a root and has ended
    pub whole_walk : (root name : List ℕ) (most : ℕ) (p q : Progress) → finds root (Some name)
        → Starts reads root name most p → Advances finds p.frames.items p q
        → IsTable reads (files_in q.table) → q.frames.items ≡ []
        → IsWalk finds reads root most (files_in q.table) q.steps.items
    whole_walk root name most p q sought begun a right ended =
        let files : Files = files_in q.table in
        let leads : Leads finds p.frames.items q.frames.items a.made files = a.leads files (same_files files) in
        let leads_root : Leads finds (file_frame 0 (root_folder root) (length (events_of begun.content)) ∷ []) [] a.made files =
        subst (λ (x : List Frame). Leads finds (file_frame 0 (root_folder root) (length (events_of begun.content)) ∷ []) x a.made files) ended
        (subst (λ (x : List Frame). Leads finds x q.frames.items a.made files) begun.frames leads) in
        let d : Completes finds files (file_frame 0 (root_folder root) (length (events_of begun.content)) ∷ []) (a.made ++ []) = leads_root [] refl in
        let made : q.steps.items ≡ a.made = a.steps ∙ ap (λ (x : List Step). x ++ a.made) begun.steps in
        let same : a.made ≡ d.0 ++ step.End ∷ [] =
        sym (append-nil a.made) ∙ (d.3 ∙ ap (λ (x : List Step). d.0 ++ step.End ∷ x) d.4) in
        record {
          count = right.count;
          read = right.read;
          once = right.once;
          name = name;
          sought = sought;
          named = a.more.names 0 name (ap (λ (x : List (List ℕ)). slice_get x 0) begun.names);
          content = begun.content;
          is_content = a.more.contents 0 (rw begun.contents (omega arith)) ∙ ap (λ (x : List Content). slice_get x 0) begun.contents;
          inner = d.0;
          walks = d.2;
          are = made ∙ same;
          few = rw made (omega (arith, a.count, begun.left));
          cut = λ is. (let none : q.left ≡ 0 = a.cut (ap is_cut (sym made) ∙ is) in rw made (omega (arith, a.count, begun.left, none)));
        }
