-- Worked rows: which answers messages ask for.
use Rattle.std.proofs.Common.{◌≡◌, codes, [], ◌∷◌, refl}
use Rattle.serde_json.specs.Data.{Data, Members, null, number, string, array, object, item, no_items, member, no_members, unsigned}
use Rattle.rpc_messages.specs.Messages.{answered, asked, notification, response}

abbrev seven : Data
seven = number (unsigned 7)

abbrev with_method : Members
with_method = member (codes "method") (string (codes "shutdown")) no_members

pub request : asked (object (member (codes "id") seven with_method)) ≡ seven ∷ []
request = refl

-- an id may be null
pub null_id : asked (object (member (codes "id") null with_method)) ≡ null ∷ []
null_id = refl

pub note : asked (object with_method) ≡ []
note = refl

pub answer : asked (response seven null) ≡ []
answer = refl

pub batch :
    asked (array (item (object (member (codes "id") seven with_method)) no_items)) ≡ null ∷ []
batch = refl

-- among what goes, an answer has an id, and a notification has none
pub goes : answered (notification (codes "x") null ∷ response seven null ∷ []) ≡ seven ∷ []
goes = refl
