-- How far a walk has come.
use Rattle.std.specs.Prelude.{◌≡◌, ℕ, ◌+◌, ◌-◌, ◌*◌, ◌<◌, Bool, List, [], ◌∷◌, ◌++◌, length, map, Option, Some, None, string_bytes, option_map, nat_eq, get_or, if◌then◌else◌}
use Rattle.std.specs.List.{slice_get}
use Rattle.crate_walk.specs.Files.{Files, event_in, events_of}
use Rattle.crate_walk.specs.Folders.{Folder, inside, root_folder}
use Rattle.crate_walk.specs.Seeking.{Finding, found, IsSought, seen}
use Rattle.crate_walk.specs.Tables.{AreMore, IsTable}
use Rattle.crate_walk.specs.Files.{files_in}
use Rattle.crate_walk.specs.Walks.{Here, Walks, IsLacking, end_of, entered, is_cut, is_item, is_open, is_text}
use Rattle.crate_walk.specs.declared.files.Content.{Content}
use Rattle.crate_walk.specs.declared.event.Event.{Event}
use Rattle.crate_walk.specs.declared.walk.Entry.{Entry}
use Rattle.crate_walk.specs.declared.walk.Entry.TheVariants as entry
use Rattle.crate_walk.specs.declared.event.Event.TheVariants as event
use Rattle.crate_walk.specs.declared.event.ModuleItem.{ModuleItem}
use Rattle.crate_walk.specs.declared.progress.Frame.{Frame}
use Rattle.crate_walk.specs.declared.progress.Progress.{Progress}
use Rattle.crate_walk.specs.declared.next.Next.{Next}
use Rattle.crate_walk.specs.declared.next.Next.TheVariants as next
use Rattle.crate_walk.specs.declared.step.Lack.TheVariants as lack
use Rattle.crate_walk.specs.declared.step.Place.{Place}
use Rattle.crate_walk.specs.declared.step.Step.{Step}
use Rattle.crate_walk.specs.declared.step.Step.TheVariants as step

-- where the items of a frame stand, in these frames
abbrev pub here_of : Frame → List Frame → Here
here_of f fs = record { file = f.file; folder = f.folder; around = map (λ g. g.file) fs }

-- how many frames are in a file
abbrev pub count_in : List Frame → ℕ → ℕ
count_in [] k = 0
count_in (f ∷ fs) k = (if nat_eq f.file k then 1 else 0) + count_in fs k

-- so many frames are in each file
abbrev pub IsCounted : List ℕ → List Frame → Type 0
IsCounted counts fs = (k : ℕ) → get_or counts k 0 ≡ count_in fs k

-- one more is in this file
abbrev pub CountsUp : List ℕ → List ℕ → ℕ → Type 0
CountsUp old new file =
    (k : ℕ) → get_or new k 0 ≡ (if nat_eq file k then 1 else 0) + get_or old k 0

-- the files of frames were read
abbrev pub AreRead : Files → List Frame → Type 0
AreRead files [] = Unit {0}
AreRead files (f ∷ fs) = (f.file < length files.contents) × AreRead files fs

-- the next event of a frame
abbrev pub at_next : Frame → Place
at_next f = record { file = f.file; event = f.next }

-- the frame behind that
abbrev pub behind_next : Frame → Frame
behind_next f = record f { next = f.next + 1 }

-- the frame behind an inline module with this many events
abbrev pub behind_inline : Frame → ℕ → Frame
behind_inline f n = record f { next = end_of f.next n f.last }

-- the frame of such a module
abbrev pub inline_frame : Frame → Folder → ℕ → Frame
inline_frame f folder n =
    record { file = f.file; next = f.next + 1; last = end_of f.next n f.last; folder = folder }

-- the frame of a file with this many events
abbrev pub file_frame : ℕ → Folder → ℕ → Frame
file_frame k folder n = record { file = k; next = 0; last = n; folder = folder }

-- a step was made: these frames are begun now, and so many files may still be entered
pub record GoesOn (old new : Progress) (s : Step) (begun : List Frame) (count : ℕ) : Type 0 where
  pub steps : new.steps.items ≡ old.steps.items ++ s ∷ []
  pub frames : new.frames.items ≡ begun
  pub table : new.table ≡ old.table
  pub left : new.left ≡ count
  pub counted : IsCounted new.counts.items begun

-- a file is entered only where that is allowed
abbrev pub IsAllowed : Next → ℕ → Type 0
IsAllowed (next.Outline s) left = 0 < left
IsAllowed next.TooMany left = left ≡ 0
IsAllowed n left = Unit {0}

-- what a module is that is in the file of this number
abbrev pub IsContentEntry : Files → ℕ → Folder → Entry → Type 0
IsContentEntry files k folder (entry.File j n g) =
    (c : Content) × (slice_get files.contents k ≡ Some c) × (is_text c ≡ Bool.true)
    × (n ≡ length (events_of c)) × (j ≡ k) × (g ≡ folder)
IsContentEntry files k folder (entry.Lack why) =
    (c : Content) × (slice_get files.contents k ≡ Some c) × (is_text c ≡ Bool.false)
    × (why ≡ lack.Unread k)

-- how much frames can still do
abbrev pub weight_of : List Frame → ℕ
weight_of [] = 0
weight_of (f ∷ fs) = 2 * (f.last - f.next) + 1 + weight_of fs

-- how much a walk can still do: files that may be entered count more than all events of one
abbrev pub measure_of : ℕ → List Frame → ℕ
measure_of left fs = left * 36893488147419103232 + weight_of fs

-- it can do less than before
abbrev pub IsLess : List Frame → Progress → Progress → Type 0
IsLess frames old new =
    measure_of new.left new.frames.items < measure_of old.left frames

-- a walk begins: the root was read, and its items are begun
pub record Starts (reads : List ℕ → Content → Type 0) (root name : List ℕ) (most : ℕ)
    (p : Progress) : Type 0 where
  pub content : Content
  pub names : (files_in p.table).names ≡ name ∷ []
  pub contents : (files_in p.table).contents ≡ content ∷ []
  pub read : reads name content
  pub steps : p.steps.items ≡ []
  pub frames : p.frames.items
      ≡ file_frame 0 (root_folder root) (length (events_of content)) ∷ []
  pub left : p.left ≡ most
  pub counted : IsCounted p.counts.items p.frames.items

module _ (finds : List ℕ → Option (List ℕ) → Type 0) where
  -- with these steps all modules end that are begun, the innermost first
  abbrev pub Completes : Files → List Frame → List Step → Type 0
  Completes files [] steps = steps ≡ []
  Completes files (f ∷ fs) steps =
      (inner : List Step) × (rest : List Step)
      × Walks finds files (here_of f fs) f.next f.last inner
      × (steps ≡ inner ++ step.End ∷ rest) × Completes files fs rest

  -- what completes the new state completes the old one, behind the steps that were made
  abbrev pub Leads : List Frame → List Frame → List Step → Files → Type 0
  Leads old new made files =
      (rest : List Step) → Completes files new rest → Completes files old (made ++ rest)

  -- a walk has come from one state, where these frames were begun, to another
  pub record Advances (begun : List Frame) (old new : Progress) : Type 0 where
    pub made : List Step
    pub steps : new.steps.items ≡ old.steps.items ++ made
    pub more : AreMore (files_in old.table) (files_in new.table)
    pub read : AreRead (files_in new.table) new.frames.items
    pub leads : (files : Files) → AreMore (files_in new.table) files
        → Leads begun new.frames.items made files
    pub count : new.left + entered made ≡ old.left
    pub cut : is_cut made ≡ Bool.true → new.left ≡ 0

  -- one step was made
  pub record Turns (reads : List ℕ → Content → Type 0) (begun : List Frame)
      (old new : Progress) : Type 0 where
    pub advances : Advances begun old new
    pub right : IsTable reads (files_in new.table)
    pub counted : IsCounted new.counts.items new.frames.items
    pub less : IsLess begun old new

  -- a step was made, or all modules have ended and nothing was done
  abbrev pub IsTurn : (List ℕ → Content → Type 0) → Progress → Progress → Bool → Type 0
  IsTurn reads old new Bool.true = Turns reads old.frames.items old new
  IsTurn reads old new Bool.false =
      (old.frames.items ≡ []) × (new.frames.items ≡ []) × (new.steps ≡ old.steps)
      × (new.table ≡ old.table) × (new.left ≡ old.left)

  -- what the module of a frame is whose file was so found
  abbrev pub IsEntry : Files → Here → Finding → Entry → Type 0
  IsEntry files h s (entry.File k n folder) =
      (name : List ℕ) × (c : Content) × (s ≡ found name folder)
      × (slice_get files.names k ≡ Some name)
      × (slice_get files.contents k ≡ Some c) × (is_text c ≡ Bool.true)
      × (n ≡ length (events_of c)) × (is_open h k ≡ Bool.false)
  IsEntry files h s (entry.Lack why) = IsLacking finds files h s why

  -- the same for a frame, of which the table may have got more files
  abbrev pub IsEntryAt : Progress → Progress → Frame → Finding → Entry → Type 0
  IsEntryAt old new f s e = IsEntry (files_in new.table) (here_of f old.frames.items) s e

  -- an event, where the files of modules are looked for in this folder, is what comes next
  abbrev pub IsNextOf : Folder → Event → Next → Type 0
  IsNextOf folder e next.End = ⊥
  IsNextOf folder e next.Item = is_item e ≡ Bool.true
  IsNextOf folder e next.TooMany = (m : ModuleItem) × (e ≡ event.Outline m)
  IsNextOf folder e (next.Inline inner n) =
      (m : ModuleItem) × (e ≡ event.Inline m n)
      × (inner ≡ inside folder (string_bytes m.name) (option_map string_bytes m.path))
  IsNextOf folder e (next.Outline s) =
      (m : ModuleItem) × (e ≡ event.Outline m) × IsSought finds folder m (seen s)

  -- this comes next in a frame
  abbrev pub IsNext : Files → Frame → Next → Type 0
  IsNext files f next.End = event_in files f.file f.next f.last ≡ None
  IsNext files f n =
      (e : Event) × (event_in files f.file f.next f.last ≡ Some e) × IsNextOf f.folder e n
