-- Demand 2's cutting law. A walk is accepted exactly if the body can be cut into entries of their stated lengths, each fit for its kind
-- (`accepted_cut`, `cut_accepted`); the cut is then unique (`cut_unique`), and the records are those of its pieces in order (`cut_accepted`).
-- A refused walk stops at the end of the longest beginning that can be cut, for the reason that stands there (`stops`, `stops_longest`), and its
-- number is 6 to 11 (`walk_number`). So the report's number is 0 exactly if the body can be cut, where no test before the entries holds
-- (`report_cut`).
-- Assumes nothing.
use mathlib.Core.Path.{◌≡◌, refl, sym, ap, subst, ◌∙◌}
use mathlib.Core.List.{List, [], ◌∷◌, ◌++◌, append_assoc, append-nil, flatten}
use mathlib.Core.Logic.{◌⊎◌, inl, inr, ⊎_elim, ◌↔◌}
use Prim.Native.Nat.{ℕ, zero, suc, ◌+◌, ◌<◌, ◌≤◌}
use native.Mathlib.Nat.{le_refl, not-suc-le-zero}
use native.Mathlib.Omega.{arith}
use borrow.Author.Tests.{ne_eqb, le-ltb}
use lib.ListN.{length, take, drop, length-drop, length-append, take-append-drop}
use lib.Seq.{take-append_seam, drop-append_seam, length-take-le}
use Rattle.std.specs.Prelude.{Result, Ok, Err}
use Rattle.entry.specs.declared.parse.DromEntry.{DromEntry}
use Rattle.entry.specs.declared.refusal.Refusal.{Refusal}
use Rattle.entry.specs.Refusals.{refusal_number}
use Rattle.entry.specs.Adapters.{kind_in}
use Rattle.entry.specs.Decode.{number_of}
use Rattle.entry.proofs.FitLaws.{fit_decodes, decoded_fit}
use Rattle.drom.specs.declared.reader.Report.{Report}
use Rattle.drom.specs.Header.{body_start}
use Rattle.drom.specs.Walk.{Walked, entry_of, front_of, end, stop, and_then, walk_of}
use Rattle.drom.specs.Cut.{Entry, Cut, none, next, records_at}
use Rattle.drom.specs.Report.{refusal_of, walk_in, report_of}
use Rattle.drom.proofs.Joined.{flatten_append}
use Rattle.drom.proofs.ReportLaws.{report_walked}
use Rattle.drom.proofs.WalkLaws.{front_inside, front_number, walk_end, walk_on}

module _ (kinds : ℕ → ℕ) where
  -- ---- an entry at the front

  -- where an entry stands at the front, those bytes are one
  front_entry : (L : ℕ) (bs : List ℕ) (e : DromEntry) → front_of kinds L (L ∷ bs) ≡ Ok e → Entry kinds (take L (L ∷ bs))
  front_entry zero bs e f = absurd (not-suc-le-zero (front_inside kinds zero (zero ∷ bs) e f).0)
  front_entry (suc n) bs e f =
      let in_front = front_inside kinds (suc n) (suc n ∷ bs) e f in
      let whole : length (take (suc n) (suc n ∷ bs)) ≡ suc n = length-take-le (suc n) (suc n ∷ bs) in_front.1 in
      record {
        rest = take n bs;
        stated = ap (λ (k : ℕ). k ∷ take n bs) (sym whole);
        fit = decoded_fit (kinds (number_of (take (suc n) (suc n ∷ bs)))) (take (suc n) (suc n ∷ bs)) e in_front.2;
      }

  -- an entry in front of other bytes stands there
  entry_front : (bs body : List ℕ) → Entry kinds bs → (e : DromEntry) × (front_of kinds (length bs) (bs ++ body) ≡ Ok e) × (entry_of kinds bs ≡ Ok e)
  unfolding front_of
  entry_front bs body p =
      let d = (fit_decodes (kinds (number_of bs)) bs).0 p.fit in
      let some : length bs ≡ suc (length p.rest) = ap length p.stated in
      let inside : length bs ≤ length (bs ++ body) = omega (arith, length-append bs body) in
      (d.0, rw (ne_eqb (length bs) 0 (λ z. omega arith), le-ltb (length (bs ++ body)) (length bs) inside, take-append_seam bs body) d.1, d.1)

  -- a walk over an entry and a body behind it
  walk_entry : (at : ℕ) (bs body : List ℕ) → Entry kinds bs
      → walk_of kinds at (bs ++ body) ≡ and_then at bs (entry_of kinds bs) (walk_of kinds (at + length bs) body)
  walk_entry at bs body p =
      let there = entry_front bs body p in
      let front : bs ++ body ≡ length bs ∷ (p.rest ++ body) = ap (λ (t : List ℕ). t ++ body) p.stated in
      ap (walk_of kinds at) front
      ∙ walk_on kinds at (length bs) (p.rest ++ body)
      ∙ ap (λ (t : List ℕ). and_then at (take (length bs) t) (front_of kinds (length bs) t) (walk_of kinds (at + length bs) (drop (length bs) t))) (sym front)
      ∙ rw (take-append_seam bs body, drop-append_seam bs body, there.1, there.2)

  -- ---- a cut

  cut_joins : (body : List ℕ) (entries : List (List ℕ)) → Cut kinds body entries → flatten entries ≡ body
  unfolding flatten
  cut_joins body entries none = refl
  cut_joins body entries (next {entry} {body = rest} {entries = more} p cut) = ap (λ (t : List ℕ). entry ++ t) (cut_joins rest more cut)

  -- a walk over a beginning that can be cut, and what is behind it
  pub walk_cut : (at : ℕ) (body post : List ℕ) (entries : List (List ℕ)) → Cut kinds body entries
      → walk_of kinds at (body ++ post)
      ≡ record {
        entries = entries ++ (walk_of kinds (at + length body) post).entries;
        records = records_at kinds at entries ++ (walk_of kinds (at + length body) post).records;
        number = (walk_of kinds (at + length body) post).number;
        offset = (walk_of kinds (at + length body) post).offset;
      }
  walk_cut at body post entries none = let e : at + 0 ≡ at = omega arith in rw e
  walk_cut at body post entries (next {entry} {body = rest} {entries = more} p cut) =
      let d = entry_front entry (rest ++ post) p in
      let far : at + length entry + length rest ≡ at + length (entry ++ rest) = omega (arith, length-append entry rest) in
      ap (walk_of kinds at) (append_assoc entry rest post)
      ∙ walk_entry at entry (rest ++ post) p
      ∙ ap (and_then at entry (entry_of kinds entry)) (walk_cut (at + length entry) rest post more cut)
      ∙ rw (d.2, far)

  -- ---- where a walk stops

  -- bytes at whose front no entry stands, and the number of the reason
  pub record Blocked (bs : List ℕ) (n : ℕ) : Type 0 where
    pub L : ℕ
    pub tail : List ℕ
    pub first : bs ≡ L ∷ tail
    pub refusal : Refusal
    pub reason : front_of kinds L bs ≡ Err refusal
    pub number : n ≡ refusal_number refusal

  blocked_number : {bs : List ℕ} {n : ℕ} → Blocked bs n → (6 ≤ n) × (n ≤ 11)
  blocked_number {bs} {n} b = rw b.number (front_number kinds b.L bs b.refusal b.reason)

  -- what a walk has passed can be cut; behind it is nothing, or what no entry stands at the front of
  pub record Stops (at : ℕ) (bs : List ℕ) (w : Walked) : Type 0 where
    pub rest : List ℕ
    pub split : bs ≡ flatten w.entries ++ rest
    pub cut : Cut kinds (flatten w.entries) w.entries
    pub why : ((w.number ≡ 0) × (w.offset ≡ 0) × (rest ≡ [])) ⊎ ((w.offset ≡ at + length (flatten w.entries)) × Blocked rest w.number)

  stops_here : (at : ℕ) → Stops at [] end
  unfolding flatten
  stops_here at = record { rest = []; split = refl; cut = none; why = inl (refl, refl, refl) }

  module _ (at L : ℕ) (bs : List ℕ) where
    refused_here : (r : Refusal) → front_of kinds L (L ∷ bs) ≡ Err r → Stops at (L ∷ bs) (stop (refusal_number r) at)
    unfolding flatten
    refused_here r f =
        let e : at ≡ at + 0 = omega arith in
        record {
          rest = L ∷ bs;
          split = refl;
          cut = none;
          why = inr (e, record { L = L; tail = bs; first = refl; refusal = r; reason = f; number = refl });
        }

    stops_on : (e : DromEntry) (w : Walked) → front_of kinds L (L ∷ bs) ≡ Ok e → Stops (at + L) (drop L (L ∷ bs)) w → Stops at (L ∷ bs) (and_then at (take L (L ∷ bs)) (Ok e) w)
    unfolding flatten
    stops_on e w f s =
        let piece : List ℕ = take L (L ∷ bs) in
        let long : length piece ≡ L = length-take-le L (L ∷ bs) (front_inside kinds L (L ∷ bs) e f).1 in
        record {
          rest = s.rest;
          split =
              sym (take-append-drop L (L ∷ bs))
              ∙ ap (λ (t : List ℕ). piece ++ t) s.split
              ∙ sym (append_assoc piece (flatten w.entries) s.rest);
          cut = next (front_entry L bs e f) s.cut;
          why = go long s.why;
        }
      where
        go : length (take L (L ∷ bs)) ≡ L
            → ((w.number ≡ 0) × (w.offset ≡ 0) × (s.rest ≡ [])) ⊎ ((w.offset ≡ at + L + length (flatten w.entries)) × Blocked s.rest w.number)
            → ((w.number ≡ 0) × (w.offset ≡ 0) × (s.rest ≡ [])) ⊎ ((w.offset ≡ at + length (take L (L ∷ bs) ++ flatten w.entries)) × Blocked s.rest w.number)
        go long (inl h) = inl h
        go long (inr h) = inr (omega (arith, h.0, length-append (take L (L ∷ bs)) (flatten w.entries)), h.1)

  stops_front : (at L : ℕ) (bs : List ℕ) → (0 < L → Stops (at + L) (drop L (L ∷ bs)) (walk_of kinds (at + L) (drop L (L ∷ bs))))
      → (d : Result DromEntry Refusal) → front_of kinds L (L ∷ bs) ≡ d → Stops at (L ∷ bs) (and_then at (take L (L ∷ bs)) d (walk_of kinds (at + L) (drop L (L ∷ bs))))
  stops_front at L bs ih (Ok e) f = stops_on at L bs e (walk_of kinds (at + L) (drop L (L ∷ bs))) f (ih (front_inside kinds L (L ∷ bs) e f).0)
  stops_front at L bs ih (Err r) f = refused_here at L bs r f

  stops_by : (n at : ℕ) (bs : List ℕ) → length bs ≤ n → Stops at bs (walk_of kinds at bs)
  stops_by zero at [] h = rw (walk_end kinds at) (stops_here at)
  stops_by zero at (L ∷ bs) h = absurd (not-suc-le-zero h)
  stops_by (suc n) at [] h = rw (walk_end kinds at) (stops_here at)
  stops_by (suc n) at (L ∷ bs) h =
      rw (walk_on kinds at L bs)
      (stops_front at L bs (λ p. stops_by n (at + L) (drop L (L ∷ bs)) (omega (arith, length-drop L (L ∷ bs)))) (front_of kinds L (L ∷ bs)) refl)

  pub stops : (at : ℕ) (bs : List ℕ) → Stops at bs (walk_of kinds at bs)
  stops at bs = stops_by (length bs) at bs (le_refl _)

  -- ---- the theorems

  -- a walk's number is 0, or 6 to 11
  pub walk_number : (at : ℕ) (body : List ℕ) → ((walk_of kinds at body).number ≡ 0) ⊎ ((6 ≤ (walk_of kinds at body).number) × ((walk_of kinds at body).number ≤ 11))
  walk_number at body = ⊎_elim (λ accepted. inl accepted.0) (λ refused. inr (blocked_number refused.1)) (stops at body).why

  -- an accepted body can be cut, into what the walk passed
  pub accepted_cut : (at : ℕ) (body : List ℕ) → (walk_of kinds at body).number ≡ 0 → Cut kinds body (walk_of kinds at body).entries
  accepted_cut at body h = go (stops at body) (stops at body).why
    where
      go : (s : Stops at body (walk_of kinds at body))
          → (((walk_of kinds at body).number ≡ 0) × ((walk_of kinds at body).offset ≡ 0) × (s.rest ≡ []))
          ⊎ (((walk_of kinds at body).offset ≡ at + length (flatten (walk_of kinds at body).entries)) × Blocked s.rest (walk_of kinds at body).number)
          → Cut kinds body (walk_of kinds at body).entries
      go s (inl k) =
          let all : flatten (walk_of kinds at body).entries ≡ body = sym (s.split ∙ ap (λ (t : List ℕ). flatten (walk_of kinds at body).entries ++ t) k.2 ∙ append-nil _) in
          subst (λ (t : List ℕ). Cut kinds t (walk_of kinds at body).entries) all s.cut
      go s (inr k) = absurd (omega (arith, blocked_number k.1))

  -- a body that can be cut is accepted; the walk passes the entries of the cut, and the records are theirs in order
  pub cut_accepted : (at : ℕ) (body : List ℕ) (entries : List (List ℕ)) → Cut kinds body entries
      → walk_of kinds at body ≡ record { entries = entries; records = records_at kinds at entries; number = 0; offset = 0 }
  cut_accepted at body entries cut =
      ap (walk_of kinds at) (sym (append-nil body))
      ∙ walk_cut at body [] entries cut
      ∙ rw (walk_end kinds (at + length body)) (rw (append-nil entries, append-nil (records_at kinds at entries)))

  -- there is no second cut
  pub cut_unique : (body : List ℕ) (entries others : List (List ℕ)) → Cut kinds body entries → Cut kinds body others → entries ≡ others
  cut_unique body entries others c d = sym (ap (λ (w : Walked). w.entries) (cut_accepted 0 body entries c)) ∙ ap (λ (w : Walked). w.entries) (cut_accepted 0 body others d)

  -- a walk is refused exactly if there is no cut
  pub refused_uncut : (at : ℕ) (body : List ℕ) → (((walk_of kinds at body).number ≡ 0 → ⊥) ↔ ((entries : List (List ℕ)) → Cut kinds body entries → ⊥))
  refused_uncut at body =
      (λ h entries c. h (ap (λ (w : Walked). w.number) (cut_accepted at body entries c)), λ h z. h (walk_of kinds at body).entries (accepted_cut at body z))

  -- no beginning that can be cut is longer than what the walk passed
  pub stops_longest : (at : ℕ) (body beginning rest : List ℕ) (entries : List (List ℕ)) → body ≡ beginning ++ rest → Cut kinds beginning entries
      → length beginning ≤ length (flatten (walk_of kinds at body).entries)
  unfolding flatten
  stops_longest at body beginning rest entries e cut =
      let w : Walked = walk_of kinds (at + length beginning) rest in
      let passed : (walk_of kinds at body).entries ≡ entries ++ w.entries = ap (λ (t : List ℕ). (walk_of kinds at t).entries) e ∙ ap (λ (v : Walked). v.entries) (walk_cut at beginning rest entries cut) in
      let joined : flatten (walk_of kinds at body).entries ≡ beginning ++ flatten w.entries = ap flatten passed ∙ flatten_append entries w.entries ∙ ap (λ (t : List ℕ). t ++ flatten w.entries) (cut_joins beginning entries cut) in
      omega (arith, ap length joined, length-append beginning (flatten w.entries))

-- the law of the report: where no test before the entries holds, the number is 0 exactly if the body can be cut
pub report_cut : (list drom : List ℕ) (room : ℕ) → refusal_of list drom room ≡ 0
    → (report_of list drom room).number ≡ 0 ↔ ((entries : List (List ℕ)) × Cut (kind_in list) (drop (body_start drom) drom) entries)
report_cut list drom room h =
    let body : List ℕ = drop (body_start drom) drom in
    let told : (report_of list drom room).number ≡ (walk_in (kind_in list) drom).number = ap (λ (r : Report). r.number) (report_walked list drom room h) in (
      λ z. ((walk_in (kind_in list) drom).entries, accepted_cut (kind_in list) (body_start drom) body (sym told ∙ z)),
      λ c. told ∙ ap (λ (w : Walked). w.number) (cut_accepted (kind_in list) (body_start drom) body c.0 c.1),
    )
