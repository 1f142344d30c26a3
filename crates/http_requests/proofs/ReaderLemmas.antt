-- What a reader knows of bytes it knows whatever follows them.
use Rattle.std.proofs.Common.{◌≡◌, ℕ, ◌<◌, ◌≤◌, Bool, [], ◌++◌, length, drop, refl, sym, ap, subst, append_assoc, append-nil, arith}
use Rattle.task_model.specs.Terms.Text.{Text}
use Rattle.http_heads.specs.Phases.{HasLookedAt}
use Rattle.http_heads.proofs.ScanLemmas.{looked_more}
use Rattle.http_requests.specs.declared.reader.RequestReader.{RequestReader}
use Rattle.http_requests.specs.declared.found.Found.{Found}
use Rattle.http_requests.specs.declared.found.Found.TheVariants.{Wanted}
use Rattle.http_requests.specs.declared.found.Found.TheVariants as found
use Rattle.http_requests.specs.declared.progress.Progress.{Progress}
use Rattle.http_requests.specs.declared.progress.Progress.TheVariants as progress
use Rattle.http_requests.specs.declared.request.Request.{Request}
use Rattle.http_requests.specs.RequestReading.{IsProgress, IsUnfinished, request_term}
use Rattle.http_requests.specs.Streams.{BeginsWithRequest}
use Rattle.http_requests.specs.Knowledge.{AreEnough, AreWanted, HasLookedOn, HasRead, HasSize, IsFound, length_found}
use Rattle.http_requests.proofs.FoundLemmas.{size_of_whole}

wanted_more : (n : ℕ) (bytes more : Text) → AreWanted n bytes → AreWanted n (bytes ++ more)
wanted_more n bytes more h again ended short =
    subst (λ z. IsUnfinished z ended) (sym (append_assoc bytes more again))
    (h (more ++ again) ended (subst (λ z. length z < n) (append_assoc bytes more again) short))

enough_more : (n : ℕ) (bytes more : Text) → AreEnough n bytes → AreEnough n (bytes ++ more)
enough_more n bytes more h again all =
    subst BeginsWithRequest (sym (append_assoc bytes more again))
    (h (more ++ again) (subst (λ z. n ≤ length z) (append_assoc bytes more again) all))

pub read_on : (reader : RequestReader) (bytes : Text) → HasLookedAt reader.scan bytes → AreWanted reader.wanted bytes
    → (0 < reader.wanted → AreEnough reader.wanted bytes) → (more : Text) → HasRead reader (bytes ++ more)
read_on reader bytes looked wanted enough more = record {
  looked = looked_more reader.scan bytes more looked;
  wanted = wanted_more reader.wanted bytes more wanted;
  enough = λ some. enough_more reader.wanted bytes more (enough some);
}

-- a reader that knows the size
pub read_sized : (reader : RequestReader) (bytes : Text) → HasLookedAt reader.scan bytes → HasSize reader.wanted bytes → (more : Text)
    → HasRead reader (bytes ++ more)
read_sized reader bytes looked size = read_on reader bytes looked size.wanted (λ some. size.enough)

-- with enough bytes the first request is whole
pub enough_here : (n : ℕ) (bytes : Text) → AreEnough n bytes → n ≤ length bytes → BeginsWithRequest bytes
enough_here n bytes h all =
    let e = append-nil bytes in subst BeginsWithRequest e (h [] (let size = ap length e in omega (arith, size, all)))

-- fewer bytes than wanted
pub wanted_still : (n : ℕ) (bytes : Text) → AreWanted n bytes → length bytes < n → (ended : Bool) → IsUnfinished bytes ended
wanted_still n bytes h short ended =
    let e = append-nil bytes in
    subst (λ z. IsUnfinished z ended) e (h [] ended (let size = ap length e in omega (arith, size, short)))

-- more bytes are wanted behind a head
pub found_wanted : (bytes : Text) (f : Found) (n : ℕ) → IsFound bytes f → f ≡ Wanted n → (length bytes < n) × HasSize n bytes
found_wanted bytes f n h is = subst (IsFound bytes) is h

-- the request behind a head is whole
pub found_whole : (bytes : Text) (f : Found) (r : Request) → IsFound bytes f → f ≡ found.Request r → HasSize r.length bytes
found_whole bytes f r h is = size_of_whole bytes (drop r.length bytes) (request_term r) (subst (IsFound bytes) is h)

none_below : (n : ℕ) → n < 0 → ⊥
none_below n less = omega (arith, less)

-- where no head has ended, the size is that of what was found
pub read_headless : (reader : RequestReader) (bytes : Text) (ended : Bool) (p : Progress) → HasLookedAt reader.scan bytes
    → IsProgress bytes ended p → reader.wanted ≡ length_found p → (more : Text) → HasRead reader (bytes ++ more)
read_headless reader bytes ended p looked is same =
    let size = sized p is in
    read_on reader bytes looked (subst (λ n. AreWanted n bytes) (sym same) size.0)
    (λ some. subst (λ n. AreEnough n bytes) (sym same) (size.1 (subst (λ n. 0 < n) same some)))
  where
    sized : (p : Progress) → IsProgress bytes ended p → AreWanted (length_found p) bytes × (0 < length_found p → AreEnough (length_found p) bytes)
    sized (progress.Request r) is =
        let size = size_of_whole bytes (drop r.length bytes) (request_term r) is in (size.wanted, λ some. size.enough)
    sized progress.More is = (λ more ended short. absurd (none_below _ short), λ some. absurd (none_below 0 some))
    sized progress.Nothing is = (λ more ended short. absurd (none_below _ short), λ some. absurd (none_below 0 some))

-- where fewer bytes are there than are wanted, nothing is looked at
pub looks_waiting : (reader : RequestReader) (bytes : Text) → length bytes < reader.wanted → HasLookedOn reader reader bytes
looks_waiting reader bytes short = record {
  waits = λ less. refl;
  searched = λ all none. absurd (omega (arith, short, all));
  once = omega arith;
}
