-- A turn of the walk's loop: the records so far at the front of the buffer, and the walk that is left.
-- Assumes nothing.
use mathlib.Core.Path.{◌≡◌, refl, sym, ap, ◌∙◌}
use mathlib.Core.List.{List, [], ◌∷◌, ◌++◌, append_assoc, append-nil, flatten}
use Prim.Native.Nat.{ℕ, ◌+◌, ◌-◌, ◌*◌, ◌<◌, ◌≤◌}
use native.Mathlib.Omega.{arith}
use lib.ListN.{length, get_or, take, drop, length-append, length-drop, length-take}
use lib.Seq.{length-take-le}
use Rattle.bits.specs.Front.{onto, Wrote}
use Rattle.bits.proofs.LawsFront.{wrote_none, follows}
use Rattle.std.specs.Prelude.{Result, Ok, Err, Option, Some, None}
use Rattle.entry.specs.declared.parse.DromEntry.{DromEntry}
use Rattle.entry.specs.declared.refusal.Refusal.{Refusal}
use Rattle.entry.specs.declared.refusal.Refusal.TheVariants.{SmallBuffer}
use Rattle.entry.specs.Refusals.{refusal_number}
use Rattle.entry.specs.Decode.{number_of}
use Rattle.record.specs.Record.{record_of}
use Rattle.record.specs.Write.{record_bytes, answer_of}
use Rattle.record.proofs.WriteLaws.{written_room, answer_record, answer_refused}
use Rattle.drom.specs.Walk.{Walked, piece_at, front_at, and_then, walk_of}
use Rattle.drom.specs.declared.walk.Stop.{Stop}
use Rattle.drom.specs.Walking.{stop_number, stop_offset, Tells}
use Rattle.drom.proofs.WalkLaws.{front_inside, front_number, walk_at, walk_past}
use Rattle.drom.proofs.Joined.{flatten_snoc}

-- a buffer that was written to has its length
wrote_long : {p before after : List ℕ} {n : ℕ} → Wrote p before after n → n ≤ length before → length after ≡ length before
wrote_long {p} {before} {after} {n} w h =
    ap length w.holds ∙ length-append p (drop (length p) before) ∙ omega (arith, length-drop (length p) before, w.counts)

module _ (kinds : ℕ → ℕ) (drom : List ℕ) (start : ℕ) where
  abbrev pub whole : Walked
  whole = walk_of kinds start (drop start drom)

  -- at an offset, with so many records of so many bytes written
  pub record Going (out₀ out : List ℕ) (at records bytes : ℕ) : Type 0 where
    pub from : start ≤ at
    pub inside : at ≤ length drom
    pub small : bytes + 4 * start ≤ 4 * at
    pub long : length out ≡ length out₀
    pub done : List (List ℕ)
    pub count : records ≡ length done
    pub few : records ≤ at
    pub wrote : Wrote (flatten done) out₀ out bytes
    pub left : Walked
    pub left_is : left ≡ walk_of kinds at (drop at drom)
    pub as_records : whole.records ≡ done ++ left.records
    pub as_number : whole.number ≡ left.number
    pub as_offset : whole.offset ≡ left.offset

  pub going_start : (out : List ℕ) → start ≤ length drom → Going out out start 0 0
  unfolding flatten
  going_start out h = record {
    from = omega arith;
    inside = h;
    small = omega arith;
    long = refl;
    done = [];
    count = refl;
    few = omega arith;
    wrote = wrote_none;
    left = walk_of kinds start (drop start drom);
    left_is = refl;
    as_records = refl;
    as_number = refl;
    as_offset = refl;
  }

  -- nothing is left to walk over: what the walk comes to, for a buffer that holds what is written so far
  told : (out₀ out after : List ℕ) (at records bytes : ℕ) (stop : Option Stop) (g : Going out₀ out at records bytes)
      → g.left ≡ record { entries = []; records = []; number = stop_number stop; offset = stop_offset stop } → after ≡ onto (flatten g.done) out₀
      → Tells whole out₀ after stop records bytes
  told out₀ out after at records bytes stop g left holds =
      let all : whole.records ≡ g.done = g.as_records ∙ ap (λ (v : Walked). g.done ++ v.records) left ∙ append-nil g.done in
      record {
        number = sym (g.as_number ∙ ap (λ (v : Walked). v.number) left);
        offset = sym (g.as_offset ∙ ap (λ (v : Walked). v.offset) left);
        records = g.count ∙ ap length (sym all);
        bytes = g.wrote.counts ∙ ap (λ (rs : List (List ℕ)). length (flatten rs)) (sym all);
        buffer = holds ∙ ap (λ (rs : List (List ℕ)). onto (flatten rs) out₀) (sym all);
      }

  pub going_end : (out₀ out : List ℕ) (at records bytes : ℕ) → Going out₀ out at records bytes → length drom ≤ at → Tells whole out₀ out None records bytes
  going_end out₀ out at records bytes g h = told out₀ out out at records bytes None g (g.left_is ∙ walk_past kinds drom at h) g.wrote.holds

  module _ (out₀ out : List ℕ) (at records bytes : ℕ) (g : Going out₀ out at records bytes) (inside : at < length drom) where
    -- the part of the buffer that is left has room for any entry
    pub going_room : 16 ≤ start → length drom ≤ 4108 → 16368 ≤ length out₀ → 4 * (length drom - at) ≤ length (take (length out - bytes) (drop bytes out))
    going_room s m r = simp (length-take, length-drop) (omega (arith, g.small, g.long))

    -- the entry there, and what the part of the buffer becomes that is lent for it
    module _ (part : List ℕ) (lent : part ≡ onto (record_bytes at (piece_at drom at) (front_at kinds drom at)) (take (length out - bytes) (drop bytes out))) where
      abbrev pub after : List ℕ
      after = take bytes out ++ (part ++ drop (length out - bytes) (drop bytes out))

      pub going_next : (n : ℕ) → 16 ≤ start → length drom ≤ 4108 → 16368 ≤ length out₀
          → answer_of at (piece_at drom at) (front_at kinds drom at) ≡ Ok n
          → Going out₀ after (at + get_or drom at 0) (records + 1) (bytes + n)
      going_next n s m room a =
          let r = answer_record at (piece_at drom at) (front_at kinds drom at) n a in
          let e = r.entry in
          let L = get_or drom at 0 in
          let in_front = front_inside kinds L (drop at drom) e r.is in
          let one : List ℕ = record_of at (piece_at drom at) e in
          let w : Wrote one (take (length out - bytes) (drop bytes out)) part n =
          record { holds = lent ∙ ap (λ (d : Result DromEntry Refusal). onto (record_bytes at (piece_at drom at) d) (take (length out - bytes) (drop bytes out))) r.is; counts = r.size }
          in
          let both : Wrote (flatten g.done ++ one) out₀ after (bytes + n) = follows bytes g.wrote.counts g.wrote w in
          let fits : length one ≤ 4 * length (piece_at drom at) = written_room (piece_at drom at) (kinds (number_of (piece_at drom at))) at e in_front.2 in
          let long_piece : length (piece_at drom at) ≡ L = length-take-le L (drop at drom) in_front.1 in
          let on : g.left ≡ and_then at (piece_at drom at) (Ok e) (walk_of kinds (at + L) (drop (at + L) drom)) =
          g.left_is ∙ walk_at kinds drom at inside ∙ ap (λ (d : Result DromEntry Refusal). and_then at (piece_at drom at) d (walk_of kinds (at + L) (drop (at + L) drom))) r.is
          in
          let size : bytes + n + 4 * start ≤ 4 * (at + L) = omega (arith, r.size, g.small) in
          let end_inside : at + L ≤ length drom = omega (arith, in_front.1, length-drop at drom) in
          record {
            from = omega (arith, g.from);
            inside = end_inside;
            small = size;
            long = wrote_long both (omega arith);
            done = g.done ++ (one ∷ []);
            count = omega (arith, g.count, length-append g.done (one ∷ []));
            few = omega (arith, g.few, in_front.0);
            wrote = rw (flatten_snoc g.done one) both;
            left = walk_of kinds (at + L) (drop (at + L) drom);
            left_is = refl;
            as_records =
                g.as_records
                ∙ ap (λ (v : Walked). g.done ++ v.records) on
                ∙ sym (append_assoc g.done (one ∷ []) (walk_of kinds (at + L) (drop (at + L) drom)).records);
            as_number = g.as_number ∙ ap (λ (v : Walked). v.number) on;
            as_offset = g.as_offset ∙ ap (λ (v : Walked). v.offset) on;
          }

      -- an entry has a byte at least
      pub going_on : (n : ℕ) → answer_of at (piece_at drom at) (front_at kinds drom at) ≡ Ok n → 0 < get_or drom at 0
      going_on n a =
          let r = answer_record at (piece_at drom at) (front_at kinds drom at) n a in
          (front_inside kinds (get_or drom at 0) (drop at drom) r.entry r.is).0

      pub going_refused : (r : Refusal) → answer_of at (piece_at drom at) (front_at kinds drom at) ≡ Err r
          → Tells whole out₀ after (Some (record { refusal = r; offset = at })) records bytes
      going_refused r a =
          let d = answer_refused at (piece_at drom at) (front_at kinds drom at) r a in
          let w : Wrote [] (take (length out - bytes) (drop bytes out)) part 0 =
          record { holds = lent ∙ ap (λ (d : Result DromEntry Refusal). onto (record_bytes at (piece_at drom at) d) (take (length out - bytes) (drop bytes out))) d; counts = refl }
          in
          let both : Wrote (flatten g.done ++ []) out₀ after (bytes + 0) = follows bytes g.wrote.counts g.wrote w in
          let left : g.left ≡ record { entries = []; records = []; number = refusal_number r; offset = at } =
          g.left_is ∙ walk_at kinds drom at inside
          ∙ ap (λ (d : Result DromEntry Refusal). and_then at (piece_at drom at) d (walk_of kinds (at + get_or drom at 0) (drop (at + get_or drom at 0) drom))) d
          in
          told out₀ out after at records bytes (Some (record { refusal = r; offset = at })) g left
          (both.holds ∙ ap (λ (t : List ℕ). onto t out₀) (append-nil (flatten g.done)))

      -- the room is never wanting
      pub going_no_room : answer_of at (piece_at drom at) (front_at kinds drom at) ≡ Err SmallBuffer → ⊥
      going_no_room a =
          omega (arith, front_number kinds (get_or drom at 0) (drop at drom) SmallBuffer (answer_refused at (piece_at drom at) (front_at kinds drom at) SmallBuffer a))
