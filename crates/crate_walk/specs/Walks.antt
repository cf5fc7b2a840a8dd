-- A walk through the modules of a crate. (The Rust Reference, "Modules".)
use Rattle.std.specs.Prelude.{◌≡◌, ℕ, ◌+◌, ◌-◌, ◌≤◌, Bool, true, false, ◌||◌, nat_eq, min, List, [], ◌∷◌, ◌++◌, length, Option, Some, None, option_map, string_bytes}
use Rattle.std.specs.List.{list_any, slice_get}
use Rattle.crate_walk.specs.Files.{Files, event_in, events_of}
use Rattle.crate_walk.specs.Folders.{Folder, inside, root_folder}
use Rattle.crate_walk.specs.Seeking.{Finding, missing, ambiguous, found, IsSought}
use Rattle.crate_walk.specs.declared.files.Content.{Content}
use Rattle.crate_walk.specs.declared.files.Content.TheVariants as content
use Rattle.crate_walk.specs.declared.event.Event.{Event}
use Rattle.crate_walk.specs.declared.event.Event.TheVariants as event
use Rattle.crate_walk.specs.declared.event.ModuleItem.{ModuleItem}
use Rattle.crate_walk.specs.declared.step.Lack.{Lack}
use Rattle.crate_walk.specs.declared.step.Lack.TheVariants as lack
use Rattle.crate_walk.specs.declared.step.Place.{Place}
use Rattle.crate_walk.specs.declared.step.Step.{Step}
use Rattle.crate_walk.specs.declared.step.Step.TheVariants as step

-- where items stand: in which file, where the files of modules in them are looked for, and in which
-- files the modules around are, the innermost first
pub record Here : Type 0 where
  pub file : ℕ
  pub folder : Folder
  pub around : List ℕ

-- a file is being read
abbrev pub is_open : Here → ℕ → Bool
is_open h k = nat_eq h.file k || list_any (λ n. nat_eq n k) h.around

-- an event of the file
abbrev pub place : Here → ℕ → Place
place h i = record { file = h.file; event = i }

-- the items of an inline module
abbrev pub in_module : Here → ModuleItem → Here
in_module h m = record {
  file = h.file;
  folder = inside h.folder (string_bytes m.name) (option_map string_bytes m.path);
  around = h.file ∷ h.around;
}

-- the items of a file, where the files of modules are looked for in this folder
abbrev pub in_file : Here → ℕ → Folder → Here
in_file h k folder = record { file = k; folder = folder; around = h.file ∷ h.around }

-- the index behind the events of an inline module, of which `n` follow its own at `i`: at most `j`
abbrev pub end_of : ℕ → ℕ → ℕ → ℕ
end_of i n j = i + 1 + min n (j - (i + 1))

-- an event is an item that is no module
abbrev pub is_item : Event → Bool
is_item (event.Outline m) = false
is_item (event.Inline m n) = false
is_item e = true

-- a file can be read
abbrev pub is_text : Content → Bool
is_text (content.Text text events) = true
is_text (content.Unread why) = false

-- `finds` says what a path leads to, and `files` are those that were read
module _ (finds : List ℕ → Option (List ℕ) → Type 0) (files : Files) where
  -- the file of this number has this name
  abbrev pub IsNamed : ℕ → List ℕ → Type 0
  IsNamed k name = slice_get files.names k ≡ Some name

  -- this is why a module is passed over whose file is so found
  abbrev pub IsLacking : Here → Finding → Lack → Type 0
  IsLacking h missing lack.Missing = Unit {0}
  IsLacking h ambiguous lack.Ambiguous = Unit {0}
  IsLacking h (found name folder) (lack.Cycle k) = IsNamed k name × (is_open h k ≡ true)
  IsLacking h (found name folder) (lack.Unread k) =
      IsNamed k name
      × ((c : Content) × (slice_get files.contents k ≡ Some c) × (is_text c ≡ false))
  IsLacking h s why = ⊥

  -- a module is passed over
  abbrev pub Lacks : Here → ModuleItem → Lack → Type 0
  Lacks h m lack.TooMany = Unit {0}
  Lacks h m why = (s : Finding) × IsSought finds h.folder m s × IsLacking h s why

  -- a module is the file of this number
  pub record IsFile (h : Here) (m : ModuleItem) (k : ℕ) (folder : Folder)
      (c : Content) : Type 0 where
    pub name : List ℕ
    pub sought : IsSought finds h.folder m (found name folder)
    pub named : IsNamed k name
    pub content : slice_get files.contents k ≡ Some c
    pub is_read : is_text c ≡ true
    pub is_new : is_open h k ≡ false

  -- from the event `i` of a file up to `j` a walk has these steps
  pub data Walks : Here → ℕ → ℕ → List Step → Type 0 where
    -- no event is left
    ends : (h : Here) (i j : ℕ) → event_in files h.file i j ≡ None → Walks h i j []
    -- an item that is no module
    item : (h : Here) (i j : ℕ) (e : Event) (rest : List Step)
        → event_in files h.file i j ≡ Some e → is_item e ≡ true
        → Walks h (i + 1) j rest
        → Walks h i j (step.Item (place h i) ∷ rest)
    -- an inline module: what is in it, and what follows
    inline : (h : Here) (i j : ℕ) (m : ModuleItem) (n : ℕ) (inner rest : List Step)
        → event_in files h.file i j ≡ Some (event.Inline m n)
        → Walks (in_module h m) (i + 1) (end_of i n j) inner
        → Walks h (end_of i n j) j rest
        → Walks h i j (step.Inline (place h i) ∷ (inner ++ step.End ∷ rest))
    -- a module in a file of its own: what is in that, and what follows
    file : (h : Here) (i j : ℕ) (m : ModuleItem) (k : ℕ) (folder : Folder) (c : Content)
        (inner rest : List Step)
        → event_in files h.file i j ≡ Some (event.Outline m)
        → IsFile h m k folder c
        → Walks (in_file h k folder) 0 (length (events_of c)) inner
        → Walks h (i + 1) j rest
        → Walks h i j (step.File (place h i) k ∷ (inner ++ step.End ∷ rest))
    -- a module that is passed over
    passed : (h : Here) (i j : ℕ) (m : ModuleItem) (why : Lack) (rest : List Step)
        → event_in files h.file i j ≡ Some (event.Outline m)
        → Lacks h m why
        → Walks h (i + 1) j rest
        → Walks h i j (step.Lack (place h i) why ∷ rest)

-- how many files are entered
abbrev pub entered : List Step → ℕ
entered [] = 0
entered (step.File p k ∷ steps) = 1 + entered steps
entered (s ∷ steps) = entered steps

-- a module is passed over since as many files were entered as may be
abbrev pub is_cut : List Step → Bool
is_cut [] = false
is_cut (step.Lack p lack.TooMany ∷ steps) = true
is_cut (s ∷ steps) = is_cut steps

-- the items of the root of a crate, the file 0
abbrev pub in_root : List ℕ → Here
in_root path = record { file = 0; folder = root_folder path; around = [] }

-- a walk from a root: `reads` says what a file can have, and `most` how many files may be entered
-- besides the root
pub record IsWalk (finds : List ℕ → Option (List ℕ) → Type 0) (reads : List ℕ → Content → Type 0)
    (root : List ℕ) (most : ℕ) (files : Files) (steps : List Step) : Type 0 where
  -- each file was read once, by its name
  pub count : length files.names ≡ length files.contents
  pub read : (k : ℕ) (name : List ℕ) (c : Content) → slice_get files.names k ≡ Some name
      → slice_get files.contents k ≡ Some c → reads name c
  pub once : (j k : ℕ) (name : List ℕ) → slice_get files.names j ≡ Some name
      → slice_get files.names k ≡ Some name → j ≡ k
  -- the root is the first
  pub name : List ℕ
  pub sought : finds root (Some name)
  pub named : slice_get files.names 0 ≡ Some name
  pub content : Content
  pub is_content : slice_get files.contents 0 ≡ Some content
  -- the steps are those of its events, and its end
  pub inner : List Step
  pub walks : Walks finds files (in_root root) 0 (length (events_of content)) inner
  pub are : steps ≡ inner ++ step.End ∷ []
  -- no more files are entered than may be, and so many where one is passed over for that
  pub few : entered steps ≤ most
  pub cut : is_cut steps ≡ true → entered steps ≡ most
