use Rattle.std.proofs.{Common.{◌≡◌, List, ℕ, sym, refl, arith}, lemmas.Bool.Decides.nat_tests}
use Rattle.std.specs.Prelude.{All, IfErr, IfOk, MatchOption, OnOk, Result, Err, string_bytes, ◌<◌}
use Rattle.sixel_base.specs.{Payload.Image, declared.error.SixelError.SixelError}
use Rattle.sixel_base.specs.declared.error.SixelError.TheVariants.{OutOfMemory}
use Rattle.sixel_encoder.specs.{Compact.IsCompactText, Encoding.image_fault}
use Rattle.sixel_encoder.specs.declared.form.TextForm.TheVariants.{Compact}
use Rattle.icy_sixel.specs.ImageView.{image_value}
use Rattle.sixel_encoder.proofs.drawings.EncodedText.{hidden-written, one_string-written}
use Rattle.sixel_encoder.proofs.drawings.EncodedText.{read_back-written, short-written}
use Rattle.icy_sixel.proofs.sixel_image.SixelImage.encode_compact.Goals as goal

-- what is ensured of a compact output
record Encoded {S : Type 0} (bytes : S → List ℕ) (result : Result S SixelError) (k : ℕ)
    (image : Image) : Type 0 where
  refused : MatchOption (image_fault image) (IfErr result (λ e. e ≡ OutOfMemory))
      (λ fault. result ≡ Err fault)
  text : IfOk result (λ text. IsCompactText image k (bytes text))
  bytes_of : OnOk result (All (λ byte. byte < 256) image.pixels)

-- it is ensured of this image, which its source is
told : (c : goal.After-encode_source)
    → Encoded string_bytes c.encode_source.result c.args.options.now.max_colors
    (image_value c.args.self.now)
told c = grind (arith, nat_tests)

pub returns-clause-hidden : goal.returns-clause-hidden
returns-clause-hidden c = λ other bytes same also.
    hidden-written Compact string_bytes _ _ other _ bytes
    (λ drawing another fits is of.
    c.one_drawing.ensures _ other _ drawing another fits (sym same) is of)
    (told c).bytes_of (told c).text also

pub returns-clause-short : goal.returns-clause-short
returns-clause-short c = λ plain also.
    short-written Compact string_bytes _ _ _ plain
    (λ drawing another fits is of.
    c.one_drawing.ensures _ (image_value c.args.self.now) _ drawing another fits refl is of)
    (told c).bytes_of (told c).text also

pub returns-clause-one_string : goal.returns-clause-one_string
returns-clause-one_string c = λ limit room.
    one_string-written Compact string_bytes _ limit _ _ (told c).refused (told c).bytes_of
    (told c).text room

pub returns-clause-read_back : goal.returns-clause-read_back
returns-clause-read_back c = λ decoder reads.
    read_back-written Compact string_bytes _ decoder _ _ (told c).refused (told c).bytes_of
    (told c).text reads
