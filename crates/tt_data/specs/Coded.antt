-- A forest is coded as its flat list.
use Rattle.std.specs.Prelude.{List}
use Rattle.std.specs.Coded.{Coded, code_by, coded_list}
use Rattle.tt_data.specs.declared.tree.TokenTree.{TokenTree}
use Rattle.tt_data.specs.contracts.tree.TokenTree.{the_row}
use Rattle.tt_data.specs.Forest.{Forest, preorder, forest_of}
use Rattle.tt_data.specs.Flat.{forest_of-preorder}

abbrev pub forest_code : Coded Forest
forest_code = code_by (List TokenTree) (coded_list the_row.coded) preorder forest_of forest_of-preorder
