-- What a state promises: the bytes of a cartridge give it back, but for what its mapper does not use; what comes back has the same
-- bytes and is as fit.
use Rattle.std.specs.Prelude.{Some, None, Option}
use mathlib.Core.Bool.{true}
use mathlib.Core.Path.{◌≡◌, sym, ap, ◌∙◌}
use lib.ListN.{length, replicate}
use Rattle.bytes_le.specs.Little.{Octets}
use Rattle.cartridge.specs.Fit.{fit_cart, InTime}
use Rattle.cartridge.specs.With.{with_mapper}
use Rattle.cartridge.specs.declared.Cartridge.{Cartridge}
use Rattle.states.specs.Layout.{fields_of, encode_of}
use Rattle.states.specs.Reading.{decode_of}
use Rattle.states.specs.Plain.{plain, Used}
use Rattle.states.specs.Widths.{Widths}
use Rattle.state_fields.proofs.StoredLaws.{stored_length, stored_octets, zero_octets}
use Rattle.states.proofs.BackLaws.{back}
use Rattle.states.proofs.PlainLaws.{plain_used, plain_again, plain_encodes, plain_fits}
use Rattle.states.proofs.FitLaws.{widths}

-- ---- the bytes

-- There are 64 of them,
pub encoded_length : (c : Cartridge) → length (encode_of c) ≡ 64
unfolding encode_of
encoded_length c = stored_length (fields_of c) (replicate 64 0)

-- and each has eight bits.
pub encoded_octets : (c : Cartridge) → Octets (encode_of c)
unfolding encode_of
encoded_octets c = stored_octets (fields_of c) (replicate 64 0) (zero_octets 64)

-- ---- back from them

-- Every cartridge whose numbers fit their types comes back from its bytes, but for what its mapper does not use.
pub decode_encode : (c : Cartridge) → Widths c → decode_of (encode_of c) ≡ Some (plain c)
decode_encode c w = back c c.mapper w

-- That takes nothing from a cartridge, unless it is an MBC3 without a timer whose clock or selection is not at zero,
pub plain_same : (c : Cartridge) → Used c.mapper → plain c ≡ c
unfolding plain
plain_same c u = ap (with_mapper c) (plain_used c.mapper u)

-- so that each other comes back as it was.
pub decode_encode_same : (c : Cartridge) → Widths c → Used c.mapper → decode_of (encode_of c) ≡ Some c
decode_encode_same c w u = decode_encode c w ∙ ap Some (plain_same c u)

-- What it takes it takes at once.
pub plain_plain : (c : Cartridge) → plain (plain c) ≡ plain c
unfolding plain
plain_plain c = ap (with_mapper c) (plain_again c.mapper)

-- ---- and to them again

-- What a mapper does not use is not in the bytes,
pub encode_plain : (c : Cartridge) → encode_of (plain c) ≡ encode_of c
unfolding plain
encode_plain c = plain_encodes c c.mapper

-- and nothing else comes back,
came_back : (c d : Cartridge) → Widths c → decode_of (encode_of c) ≡ Some d → plain c ≡ d
came_back c d w e = ap cart (sym (decode_encode c w) ∙ e)
  where
    cart : Option Cartridge → Cartridge
    cart (Some x) = x
    cart None = c

-- so what comes back from the bytes of a cartridge has the same bytes.
pub encode_decode : (c d : Cartridge) → Widths c → decode_of (encode_of c) ≡ Some d → encode_of d ≡ encode_of c
encode_decode c d w e = ap encode_of (sym (came_back c d w e)) ∙ encode_plain c

-- ---- fitness

-- What a mapper does not use is not looked at,
pub fit_plain : (c : Cartridge) → fit_cart (plain c) ≡ fit_cart c
unfolding plain
fit_plain c = plain_fits c c.mapper

-- so what comes back from the bytes of a fit cartridge is fit.
pub fit_decode : (c d : Cartridge) → Widths c → decode_of (encode_of c) ≡ Some d → fit_cart d ≡ fit_cart c
fit_decode c d w e = ap fit_cart (sym (came_back c d w e)) ∙ fit_plain c

-- A fit cartridge's numbers fit their types, if a clock's time does.
pub fit_widths : (c : Cartridge) → fit_cart c ≡ true → InTime c.mapper → Widths c
fit_widths c e t = widths c e t

-- So every fit cartridge whose clock's time fits its type comes back from its bytes, but for what its mapper does not use.
pub fit_decode_encode : (c : Cartridge) → fit_cart c ≡ true → InTime c.mapper → decode_of (encode_of c) ≡ Some (plain c)
fit_decode_encode c e t = decode_encode c (fit_widths c e t)
