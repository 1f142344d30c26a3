-- What is received of a stream, one read after the other.
use Rattle.std.proofs.Common.{◌≡◌, ℕ, List, [], ◌++◌, Option, ap, sym, subst, ◌∙◌, append_assoc, append-nil}
use Rattle.std.specs.Io.KnownBytes.{Consumes}
use Rattle.std.proofs.KnownBytes.{Consumes-trans}
use Rattle.http_requests.specs.Knowledge.{HasRead}
use Rattle.http_requests.specs.declared.reader.RequestReader.{RequestReader}
use Rattle.outer_gates.specs.Arrivals.{Grew}

-- a reader that knows bytes whatever follows knows the bytes
pub knows_here : {reader : RequestReader} {bytes : List ℕ} → ((more : List ℕ) → HasRead reader (bytes ++ more)) → HasRead reader bytes
knows_here {reader} {bytes} knows = subst (HasRead reader) (append-nil bytes) (knows [])

-- more was read, and then more of that
pub grew_more : (a b c : Option (List ℕ)) (x y z : List ℕ) → Grew a b x y → Grew b c y z → Grew a c x z
grew_more a b c x y z p q =
    (p.0 ++ q.0, q.1 ∙ ap (λ w. w ++ q.0) p.1 ∙ append_assoc x p.0 q.0, Consumes-trans a b c p.0 q.0 p.2 q.2)

-- more was read, and then nothing
pub grew_same : (a b c : Option (List ℕ)) (x y z : List ℕ) → Grew a b x y → Consumes b c [] → z ≡ y → Grew a c x z
grew_same a b c x y z p q e = grew_more a b c x y z p ([], e ∙ sym (append-nil y), q)
