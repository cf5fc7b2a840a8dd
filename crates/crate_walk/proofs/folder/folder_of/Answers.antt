-- The folder of a file is what stands up to its last slash.
use Rattle.std.proofs.Common.{◌≡◌, ◌++◌, [], ◌∷◌, take, ◌∙◌, sym}
use Rattle.crate_walk.specs.Folders.{folder_of}
use Rattle.crate_walk.proofs.FolderLemmas.{folder_before, no_folder}
use Rattle.crate_walk.proofs.folder.folder_of.Goals as goal

pub returns-in-Some : goal.returns-in-Some
returns-in-Some c =
    let e = c.in-Some.ensures.cases in
    let folder : folder_of c.args.path.now ≡ take e.0 c.args.path.now ++ 47 ∷ [] =
    folder_before c.args.path.now e.0 e.1 e.2.1 e.2.0 in
    rw folder (rw (sym e.3) c.appended.ensures)

pub returns-in-None : goal.returns-in-None
returns-in-None c =
    c.new.ensures.bytes ∙ sym (no_folder c.args.path.now c.in-None.ensures.cases)
