-- A head has 31 bytes, and no text.
use Rattle.std.proofs.Common.{◌≡◌, ◌∙◌, ◌++◌, ◌+◌, List, ℕ, ap, sym, subst, arith, length, take, drop, set}
use Rattle.tt_data.specs.declared.tree.TokenTree.TheVariants as token
use Rattle.token_bytes.specs.Records.{token_bytes}
use Rattle.token_bytes.specs.Packed.{ArePacked}
use Rattle.token_bytes.proofs.MarkLemmas.{Holds, IsHeadIn-mark, head_there, length-tokens_in, set_at_head}
use Rattle.token_bytes.specs.Starts.{AreStarts}
use Rattle.token_bytes.proofs.MarkChanges.{alike_head}
use Rattle.token_bytes.proofs.StartLemmas.{starts_alike, starts_held}
use Rattle.token_bytes.proofs.buffer.TokenBuffer.set_head.Goals as goal

pub patch-requires : goal.patch-requires
patch-requires c =
    let bytes = c.self.inside.stored.records in
    let table = c.self.inside.stored.texts.texts.items in
    let packed : ArePacked c.args.self.now bytes table = subst (λ l. ArePacked l bytes table) c.self.view_is c.self.invariant.0 in
    let s = set_at_head c.args.at c.args.head c.args.self.now bytes table packed (IsHeadIn-mark _ _ c.requires) (head_there _ _ c.requires) in
    omega (arith, s.fits, ap length c.head_bytes.ensures)

held : (c : goal.After-patch) → Holds (set c.args.self.now c.args.at.count (token.Subtree c.args.head)) c.self.inside.count c.patch.new.self c.self.inside.stored.texts.texts.items
held c =
    let bytes = c.self.inside.stored.records in
    let table = c.self.inside.stored.texts.texts.items in
    let ts = c.args.self.now in
    let packed : ArePacked ts bytes table = subst (λ l. ArePacked l bytes table) c.self.view_is c.self.invariant.0 in
    let s = set_at_head c.args.at c.args.head ts bytes table packed (IsHeadIn-mark _ _ c.requires) (head_there _ _ c.requires) in
    let counted : length ts ≡ c.self.inside.count = ap length (sym c.self.view_is) ∙ length-tokens_in c.self.inside.count table bytes in
    let patched = c.patch.ensures ∙ ap (λ (h : List ℕ). take c.args.at.bytes bytes ++ (h ++ drop (c.args.at.bytes + length h) bytes)) c.head_bytes.ensures in
    let now = set ts c.args.at.count (token.Subtree c.args.head) in
    subst (λ b. Holds now c.self.inside.count b table) (sym patched)
    (subst (λ n. Holds now n (take c.args.at.bytes bytes ++ (token_bytes 0 (token.Subtree c.args.head) ++ drop (c.args.at.bytes + 31) bytes)) table) counted s.after)

pub invariant_of-self : goal.invariant_of-self
invariant_of-self c =
    let ts = c.args.self.now in
    let now = set ts c.args.at.count (token.Subtree c.args.head) in
    let starts = subst (AreStarts 64 c.self.inside.stored.starts.items) c.self.view_is c.self.invariant.2 in
    let kept = starts_alike 64 c.self.inside.stored.starts.items ts now (alike_head ts c.args.at.count c.args.head (head_there _ _ c.requires)) starts in
    ((held c).packed, c.self.invariant.1, starts_held now _ _ _ _ (held c) kept)

pub returns : goal.returns
returns c = (held c).shown
