-- Worked examples. Those on files were compared with rustc.
use Rattle.std.specs.Prelude.{◌≡◌, codes, refl, Bool, true, false, List, [], ◌∷◌, Some, None}
use Rattle.crate_walk.specs.Closing.{closes}
use Rattle.crate_walk.specs.Scopes.{Begun, ends, kept, picks_at_end}
use Rattle.crate_walk.specs.Seeking.{ambiguous, choice, found, missing, only}
use Rattle.crate_walk.specs.Walks.{end_of}
use Rattle.crate_walk.specs.WholeTexts.{IsWhole}
use Rattle.crate_walk.specs.WholeTexts.Writes.{file, left, nothing}
use Rattle.crate_walk.specs.declared.step.Place.{Place}
use Rattle.crate_walk.specs.declared.step.Step.{Step}
use Rattle.crate_walk.specs.declared.step.Step.TheVariants as step
use Rattle.crate_walk.specs.declared.whole_text.FileText.{FileText}
use Rattle.crate_walk.specs.Folders.{Folder, both, by_folder, by_name, by_path, folder_of, inside, root_folder}

-- ---- the folder of a file

file_in_folder : folder_of (codes "src/a/b.rs") ≡ codes "src/a/"
file_in_folder = refl

file_alone : folder_of (codes "lib.rs") ≡ codes ""
file_alone = refl

file_at_the_top : folder_of (codes "/lib.rs") ≡ codes "/"
file_at_the_top = refl

-- ---- the modules of a root

-- `mod a;` in `src/lib.rs` is in `src/a.rs`, and `mod b;` in that is in `src/a/b.rs`
beside_the_root : by_name (root_folder (codes "src/lib.rs")) (codes "a")
    ≡ (codes "src/a.rs", record { files = codes "src/"; modules = codes "src/a/" })
beside_the_root = refl

-- or in `src/a/mod.rs`, and `mod b;` in that beside it
in_a_folder : by_folder (root_folder (codes "src/lib.rs")) (codes "a")
    ≡ (codes "src/a/mod.rs", both (codes "src/a/"))
in_a_folder = refl

-- `#[path = "../gen/x.rs"] mod a;` is in `src/../gen/x.rs`, and the modules in that are beside it
by_a_path : by_path (root_folder (codes "src/lib.rs")) (codes "../gen/x.rs")
    ≡ (codes "src/../gen/x.rs", both (codes "src/../gen/"))
by_a_path = refl

-- an absolute path stays as it is
by_an_absolute_path : by_path (root_folder (codes "src/lib.rs")) (codes "/x.rs")
    ≡ (codes "/x.rs", both (codes "/"))
by_an_absolute_path = refl

-- a root without a folder
root_alone : by_name (root_folder (codes "lib.rs")) (codes "a")
    ≡ (codes "a.rs", record { files = codes ""; modules = codes "a/" })
root_alone = refl

-- ---- the modules of `src/a/b.rs`, which is the module `b` of `src/a.rs`

in_b : Folder
in_b = record { files = codes "src/a/"; modules = codes "src/a/b/" }

-- `mod c;`
under_a_file : by_name in_b (codes "c")
    ≡ (codes "src/a/b/c.rs", record { files = codes "src/a/b/"; modules = codes "src/a/b/c/" })
unfolding in_b
under_a_file = refl

-- `#[path = "other.rs"] mod c;` counts from the folder of the file
path_counts_from_the_file : by_path in_b (codes "other.rs")
    ≡ (codes "src/a/other.rs", both (codes "src/a/"))
unfolding in_b
path_counts_from_the_file = refl

-- `mod inline { #[path = "other.rs"] mod inner; }` (the Reference's example)
path_in_an_inline_module : by_path (inside in_b (codes "inline") None) (codes "other.rs")
    ≡ (codes "src/a/b/inline/other.rs", both (codes "src/a/b/inline/"))
unfolding in_b
path_in_an_inline_module = refl

-- ---- inline modules in a root

-- `#[path = "thread_files"] mod thread { #[path = "tls.rs"] mod local_data; }` (the Reference's
-- example)
path_of_an_inline_module :
    by_path (inside (root_folder (codes "src/lib.rs")) (codes "thread") (Some (codes "thread_files")))
    (codes "tls.rs")
    ≡ (codes "src/thread_files/tls.rs", both (codes "src/thread_files/"))
path_of_an_inline_module = refl

-- a slash at the end of such a path is not doubled
path_with_a_slash : inside (root_folder (codes "src/lib.rs")) (codes "m") (Some (codes "x/"))
    ≡ both (codes "src/x/")
path_with_a_slash = refl

-- `mod a { mod b; }`
named_inline_module : by_name (inside (root_folder (codes "src/lib.rs")) (codes "a") None) (codes "b")
    ≡ (codes "src/a/b.rs", record { files = codes "src/a/"; modules = codes "src/a/b/" })
named_inline_module = refl

-- ---- the file of a module

-- of two files that are there neither is it
both_are_there : choice (Some (codes "a.rs")) in_b (Some (codes "a/mod.rs")) in_b ≡ ambiguous
both_are_there = refl

the_second_is_there : choice None in_b (Some (codes "a/mod.rs")) (both (codes "a/"))
    ≡ found (codes "a/mod.rs") (both (codes "a/"))
the_second_is_there = refl

none_is_there : only None in_b ≡ missing
none_is_there = refl

-- ---- the events of an inline module

-- three events follow that at 4, and the last is at 9
ends_of_a_module : end_of 4 3 10 ≡ 8
ends_of_a_module = refl

-- it never goes on behind the module around it
ends_with_the_module_around : end_of 4 9 10 ≡ 10
ends_with_the_module_around = refl

-- ---- scopes

-- a definition of the root, and one of its first file
abbrev of_root : Place
of_root = record { file = 0; event = 0 }

abbrev of_a : Place
of_a = record { file = 1; event = 3 }

-- in a module, which is the file 1, begun after the definition of the root
abbrev in_a : Bool → Begun
in_a keeps = record { before = of_root ∷ []; keeps = keeps; file = Some 1 }

-- its definitions go at its end
definitions_go : ends (of_root ∷ of_a ∷ []) (in_a false ∷ [])
    ≡ record { places = of_root ∷ []; begun = [] }
definitions_go = refl

-- with `macro_use` they stay
definitions_stay : ends (of_root ∷ of_a ∷ []) (in_a true ∷ [])
    ≡ record { places = of_root ∷ of_a ∷ []; begun = [] }
definitions_stay = refl

-- and with `#![macro_use]` in the module
kept_in_the_module : kept (in_a false ∷ []) ≡ in_a true ∷ []
kept_in_the_module = refl

-- its file sees that of the root, and its own are none of the picks
picks_are_of_other_files : picks_at_end (of_root ∷ of_a ∷ []) (in_a false ∷ [])
    ≡ record { file = 1; places = of_root ∷ [] } ∷ []
picks_are_of_other_files = refl

-- ---- whole texts

-- a root with one module, which is the file 1
one_module : List Step
one_module = step.File (record { file = 0; event = 0 }) 1 ∷ step.End ∷ step.End ∷ []

-- both modules end, and nothing follows the root
both_end : closes 1 one_module ≡ true
unfolding one_module
both_end = refl

-- without the last end the root is left open
root_left_open : closes 1 (step.File (record { file = 0; event = 0 }) 1 ∷ step.End ∷ []) ≡ false
root_left_open = refl

module _ (root a : FileText) (is_root : root.text.items ≡ codes "mod a ;\n")
    (ends_at : root.ends.items ≡ Some 6 ∷ []) (is_a : a.text.items ≡ codes "x\n") where
  -- its file stands in the place of its `;`
  file_in_its_place : IsWhole (Some root ∷ Some a ∷ []) one_module (codes "mod a {\nx\n}\n")
  unfolding one_module
  file_in_its_place = record {
    inner = step.File (record { file = 0; event = 0 }) 1 ∷ step.End ∷ [];
    front = _;
    last = 7;
    are = refl;
    writes = file (Some 0) 0 6 0 7 _ 1 [] [] [] [] (rw (is_root, ends_at) refl) (nothing (Some 1) 0) (nothing (Some 0) 7);
    whole = rw (is_root, is_a) refl;
  }

  -- without a text it leaves its module as it is
  module_as_it_is : IsWhole (Some root ∷ None ∷ []) one_module (codes "mod a ;\n")
  unfolding one_module
  module_as_it_is = record {
    inner = step.File (record { file = 0; event = 0 }) 1 ∷ step.End ∷ [];
    front = [];
    last = 0;
    are = refl;
    writes = left (Some 0) 0 0 0 _ 1 [] [] [] refl (nothing None 0) (nothing (Some 0) 0);
    whole = rw is_root refl;
  }
