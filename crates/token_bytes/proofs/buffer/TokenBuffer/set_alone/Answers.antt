-- The tag of a punct's record is that of its spacing.
use Rattle.std.proofs.Common.{◌≡◌, ◌∙◌, ap, sym, subst, length, set}
use Rattle.token_bytes.specs.TokenLists.{alone_token}
use Rattle.token_bytes.specs.Packed.{ArePacked}
use Rattle.token_bytes.proofs.MarkLemmas.{Holds, length-tokens_in}
use Rattle.token_bytes.proofs.PatchLemmas.{alone_is, alone_text, read_there, replaces}
use Rattle.token_bytes.specs.Starts.{AreStarts}
use Rattle.token_bytes.proofs.MarkChanges.{alike_alone}
use Rattle.token_bytes.proofs.StartLemmas.{starts_alike, starts_held}
use Rattle.token_bytes.proofs.buffer.TokenBuffer.set_alone.Goals as goal

pub set_alone-requires : goal.set_alone-requires
set_alone-requires c =
    let bytes = c.self.inside.stored.records in
    let table = c.self.inside.stored.texts.texts.items in
    let packed : ArePacked c.args.self.now bytes table = subst (λ l. ArePacked l bytes table) c.self.view_is c.self.invariant.0 in
    (replaces c.args.at c.args.self.now bytes table packed c.requires.mark c.requires.more).there

pub invariant_of-self : goal.invariant_of-self
invariant_of-self c =
    let bytes = c.self.inside.stored.records in
    let table = c.self.inside.stored.texts.texts.items in
    let ts = c.args.self.now in
    let packed : ArePacked ts bytes table = subst (λ l. ArePacked l bytes table) c.self.view_is c.self.invariant.0 in
    let r = replaces c.args.at ts bytes table packed c.requires.mark c.requires.more in
    let t = r.there.token in
    let counted : length ts ≡ c.self.inside.count = ap length (sym c.self.view_is) ∙ length-tokens_in c.self.inside.count table bytes in
    let held : Holds (set ts c.args.at.count (alone_token t)) c.self.inside.count c.set_alone.new.records table =
    subst (λ n. Holds (set ts c.args.at.count (alone_token t)) n c.set_alone.new.records table) counted
    (r.after (alone_token t) c.set_alone.new.records (alone_is t) (alone_text t) (c.set_alone.ensures r.there)) in
    let starts = subst (AreStarts 64 c.self.inside.stored.starts.items) c.self.view_is c.self.invariant.2 in
    let alike = alike_alone ts c.args.at.count t (read_there c.args.at.count ts _ t r.behind) in
    let kept = starts_alike 64 c.self.inside.stored.starts.items ts (set ts c.args.at.count (alone_token t)) alike starts in
    (held.packed, c.self.invariant.1, starts_held (set ts c.args.at.count (alone_token t)) _ _ _ _ held kept)

pub returns : goal.returns
returns c =
    let bytes = c.self.inside.stored.records in
    let table = c.self.inside.stored.texts.texts.items in
    let ts = c.args.self.now in
    let packed : ArePacked ts bytes table = subst (λ l. ArePacked l bytes table) c.self.view_is c.self.invariant.0 in
    let r = replaces c.args.at ts bytes table packed c.requires.mark c.requires.more in
    let t = r.there.token in
    let counted : length ts ≡ c.self.inside.count = ap length (sym c.self.view_is) ∙ length-tokens_in c.self.inside.count table bytes in
    let held : Holds (set ts c.args.at.count (alone_token t)) c.self.inside.count c.set_alone.new.records table =
    subst (λ n. Holds (set ts c.args.at.count (alone_token t)) n c.set_alone.new.records table) counted
    (r.after (alone_token t) c.set_alone.new.records (alone_is t) (alone_text t) (c.set_alone.ensures r.there)) in
    (t, read_there c.args.at.count ts _ t r.behind, held.shown)
