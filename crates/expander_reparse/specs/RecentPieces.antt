-- The pieces that were read last.
use Rattle.std.specs.Prelude.{All, List}
use Rattle.std.specs.Global.{Global}
use Rattle.std.specs.Rc.{rc_value}
use Rattle.std.specs.declared.rc.Rc.{Rc}
use Rattle.expander_reparse.specs.Segments.{IsCachedPiece}
use Rattle.expander_reparse.specs.declared.segment.CachedPiece.{CachedPiece}

-- each of these pieces is right by itself
abbrev pub AreRight : List (Rc CachedPiece Global) → Type 0
AreRight pieces = All (λ (q : Rc CachedPiece Global). IsCachedPiece (rc_value q)) pieces
