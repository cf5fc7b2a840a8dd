-- Where the file of a module is looked for. (The Rust Reference, "Modules": module source
-- filenames, the `path` attribute.)
use Rattle.std.specs.Prelude.{ℕ, Bool, ◌==◌, ◌||◌, eqb, List, [], ◌∷◌, ◌++◌, codes, length, Option, Some, None, if◌then◌else◌, refl}
use Rattle.std.specs.List.{ends_with, list_any, starts_with}
use Rattle.std.specs.Coded.{Coded, code_by, coded×, coded_ℕ, coded_list}

-- a slash, which parts the names of a path
abbrev pub is_slash : ℕ → Bool
is_slash c = c == 47

-- the folder of the file with this path: the text up to its last slash, and that
abbrev pub folder_of : List ℕ → List ℕ
folder_of [] = []
folder_of (c ∷ cs) = if list_any is_slash (c ∷ cs) then c ∷ folder_of cs else []

-- where a path leads from a folder: one that begins with a slash leads there from anywhere
abbrev pub joined : List ℕ → List ℕ → List ℕ
joined folder path = if starts_with eqb path (codes "/") then path else folder ++ path

-- a path is empty or ends with a slash
abbrev pub is_folder : List ℕ → Bool
is_folder path = length path == 0 || ends_with eqb path (codes "/")

-- a path as a folder: with a slash at its end, unless it is empty
abbrev pub as_folder : List ℕ → List ℕ
as_folder path = if is_folder path then path else path ++ codes "/"

-- where the files of the modules of a place are looked for: the text before what a `path` attribute
-- says, and that before the name of a module
pub record Folder : Type 0 where
  pub files : List ℕ
  pub modules : List ℕ

-- both are this text
abbrev pub both : List ℕ → Folder
both text = record { files = text; modules = text }

-- in the root of a crate: beside its file
abbrev pub root_folder : List ℕ → Folder
root_folder path = both (folder_of path)

-- in an inline module: in a folder of its name, or the one that its `path` attribute says
abbrev pub inside : Folder → List ℕ → Option (List ℕ) → Folder
inside f name None = both (f.modules ++ (name ++ codes "/"))
inside f name (Some path) = both (as_folder (joined f.files path))

-- the file that a `path` attribute names; in it as in a root
abbrev pub by_path : Folder → List ℕ → List ℕ × Folder
by_path f path = (joined f.files path, root_folder (joined f.files path))

-- the file `name.rs`; in it, in a folder of its name
abbrev pub by_name : Folder → List ℕ → List ℕ × Folder
by_name f name = (
  f.modules ++ (name ++ codes ".rs"),
  record {
    files = f.modules;
    modules = f.modules ++ (name ++ codes "/");
  },
)

-- the file `name/mod.rs`; in it, beside it
abbrev pub by_folder : Folder → List ℕ → List ℕ × Folder
by_folder f name =
    (f.modules ++ (name ++ codes "/mod.rs"), both (f.modules ++ (name ++ codes "/")))

-- a folder is coded as its two texts
abbrev pub folder_code : Coded Folder
folder_code =
    code_by (List ℕ × List ℕ) (coded× (coded_list coded_ℕ) (coded_list coded_ℕ))
    (λ f. (f.files, f.modules)) (λ p. record { files = p.0; modules = p.1 }) (λ _. refl)
