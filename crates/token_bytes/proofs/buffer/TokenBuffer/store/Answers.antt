-- The token's record and its text come last, or neither does.
use Rattle.std.proofs.Common.{◌≡◌, ◌∙◌, ◌+◌, ◌++◌, ◌∷◌, [], ◌^◌, ap, refl, subst, arith, length, take}
use Rattle.token_bytes.specs.Records.{text_of}
use Rattle.token_bytes.proofs.MarkLemmas.{held_again, held_more, left_is, room_in}
use Rattle.token_bytes.specs.Marks.{records_size}
use Rattle.token_bytes.specs.Starts.{AreStarts}
use Rattle.token_bytes.proofs.StartLemmas.{end_size, starts_append, starts_held}
use Rattle.token_bytes.proofs.buffer.TokenBuffer.store.Goals as goal

pub append-requires-clause-room : goal.append-requires-clause-room
append-requires-clause-room c = (room_in c.args.self.now _ (2 ^ 32) _ _ c.self.invariant.0 c.self.view_is c.requires.room).0

pub overflow_add-self : goal.overflow_add-self
overflow_add-self c = omega (arith, (room_in c.args.self.now _ (2 ^ 32) _ _ c.self.invariant.0 c.self.view_is c.requires.room).1)

pub invariant_of-self : goal.invariant_of-self
invariant_of-self c =
    let ts = c.args.self.now in
    let more = ts ++ c.args.token.now ∷ [] in
    let bytes = c.append.new.records in
    let table = c.append.new.texts.texts.items in
    let held = held_more c.args.self.now c.self.inside.count (c.self.inside.count + 1) c.self.inside.stored.records c.append.new.records c.self.inside.stored.texts.texts.items c.append.new.texts.texts.items c.args.token.now c.self.invariant.0 c.self.view_is c.in-Ok.ensures.token refl c.in-Ok.ensures.bytes c.in-Ok.ensures.table in
    let before : AreStarts 64 c.self.inside.stored.starts.items ts = subst (AreStarts 64 c.self.inside.stored.starts.items) c.self.view_is c.self.invariant.2 in
    let end = end_size more (c.self.inside.count + 1) bytes table held in
    let byte : length c.bytes-bytes.result.now ≡ records_size (take (c.self.inside.count + 1) more) = ap length c.bytes-bytes.ensures ∙ end.1 in
    let noted = c.note_start.ensures more (starts_append 64 c.self.inside.stored.starts.items ts (c.args.token.now ∷ []) before) end.0 byte in
    (held.packed, c.append.ensures.numbered, starts_held more (c.self.inside.count + 1) bytes table c.note_start.new.starts.items held noted)

pub returns-in-Ok-clause-ok : goal.returns-in-Ok-clause-ok
returns-in-Ok-clause-ok c =
    let held = held_more c.args.self.now c.self.inside.count (c.self.inside.count + 1) c.self.inside.stored.records c.append.new.records c.self.inside.stored.texts.texts.items c.append.new.texts.texts.items c.args.token.now c.self.invariant.0 c.self.view_is c.in-Ok.ensures.token refl c.in-Ok.ensures.bytes c.in-Ok.ensures.table in
    held.shown

pub invariant_of-self-in-Err : goal.invariant_of-self-in-Err
invariant_of-self-in-Err c =
    let table = c.self.inside.stored.texts.texts.items in
    let counted : c.len-texts.result ≡ length table = omega (arith, c.len-texts.ensures, c.self.inside.stored.texts.texts.ok.0) in
    let same : c.cut_back.new.self.texts.items ≡ table =
    c.cut_back.ensures.table ∙ left_is (text_of c.args.token.now) table c.append.new.texts.texts.items c.len-texts.result counted c.in-Err.ensures.left in
    let held = held_again c.args.self.now _ _ _ _ _ c.self.invariant.0 c.self.view_is c.in-Err.ensures.err same in
    let before = subst (AreStarts 64 c.self.inside.stored.starts.items) c.self.view_is c.self.invariant.2 in
    (held.packed, c.cut_back.ensures.numbered, starts_held c.args.self.now _ _ _ c.self.inside.stored.starts.items held before)

pub returns-in-Err-clause-err : goal.returns-in-Err-clause-err
returns-in-Err-clause-err c =
    let table = c.self.inside.stored.texts.texts.items in
    let counted : c.len-texts.result ≡ length table = omega (arith, c.len-texts.ensures, c.self.inside.stored.texts.texts.ok.0) in
    let same : c.cut_back.new.self.texts.items ≡ table =
    c.cut_back.ensures.table ∙ left_is (text_of c.args.token.now) table c.append.new.texts.texts.items c.len-texts.result counted c.in-Err.ensures.left in
    (held_again c.args.self.now _ _ _ _ _ c.self.invariant.0 c.self.view_is c.in-Err.ensures.err same).shown
