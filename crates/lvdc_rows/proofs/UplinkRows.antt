-- Worked loads.
use Rattle.std.proofs.Common.{◌≡◌, [], refl}
use Rattle.std.specs.Prelude.{codes}
use Rattle.lvdc_uplink.specs.Answers.{uplink_answer}
use Rattle.lvdc_uplink.specs.Input.{from_heading}
use Rattle.lvdc_image.specs.Image.{image_text}
use Rattle.lvdc_image.specs.Reading.{entry_in, words_from as words_told, banks_named, banks_in, image_of}
use Rattle.lvdc_lines.specs.Fields.{pair_in, place_in}
use Rattle.lvdc_text.specs.Lines.{lines_from, tokens_from}
use Rattle.lvdc_text.specs.Numbers.{octal_text, word_in}
use Rattle.lvdc_uplink.specs.Messages.{id_in, count_in}
use Rattle.std.specs.Fmt.{digits}
use Rattle.lvdc_reply.specs.Answer.{answer_with}

-- a load of one frame, and its COMMIT again
one_load : uplink_answer (codes "IMAGE\nLVDC 1\nEND\nUPLINK\nOPEN 1 1\nFRAME 1 1 0 01 000 5 407\nCOMMIT 1 407\nCOMMIT 1 407\n") []
    ≡ answer_with 0 (codes "ACK OPEN 1\nACK FRAME 1 1\nACK COMMIT 1\nACK COMMIT 1\nLVDC 1\n0 01 000 000000005\nEND\n") []
unfolding lines_from tokens_from octal_text word_in entry_in words_told banks_named banks_in image_of pair_in place_in image_text from_heading id_in count_in digits
one_load = refl

-- frames in any order: the later number writes last
any_order : uplink_answer (codes "IMAGE\nLVDC 1\nEND\nUPLINK\nOPEN 7 2\nFRAME 7 2 0 01 000 5 6 424\nFRAME 7 1 0 01 001 1 2 3 417\nCOMMIT 7 1043\n") []
    ≡ answer_with 0 (codes "ACK OPEN 7\nACK FRAME 7 2\nACK FRAME 7 1\nACK COMMIT 7\nLVDC 1\n0 01 000 000000005\n0 01 001 000000006\n0 01 002 000000002\n0 01 003 000000003\nEND\n") []
unfolding lines_from tokens_from octal_text word_in entry_in words_told banks_named banks_in image_of pair_in place_in image_text from_heading id_in count_in digits
any_order = refl

-- each other answer
every_answer : uplink_answer (codes "IMAGE\nLVDC 1\nEND\nUPLINK\nCOMMIT 1 0\nOPEN 1 2\nFRAME 1 1 0 01 000 5 406\nCOMMIT 1 0\nOPEN 2 1\nFRAME 1 3 0 00 000 1 0\nFRAME 1 1 0 01 000 5 407\nFRAME 1 1 0 01 000 6 410\nFLY\nABANDON 1\nOPEN 1 1\nFRAME 1 1 0 00 000 1 3\nCOMMIT 1 3\nOPEN 1 1\n") []
    ≡ answer_with 0 (codes "NAK NoLoad\nACK OPEN 1\nNAK Check 000000407\nNAK Missing 1\nNAK Busy 1\nNAK Range\nACK FRAME 1 1\nNAK Differs 1\nNAK Form\nACK ABANDON 1\nACK OPEN 1\nACK FRAME 1 1\nACK COMMIT 1\nNAK Old 1\nLVDC 1\n0 00 000 000000001\nEND\n") []
unfolding lines_from tokens_from octal_text word_in entry_in words_told banks_named banks_in image_of pair_in place_in image_text from_heading id_in count_in digits
every_answer = refl

-- an image of version 2 stays one
version_2 : uplink_answer (codes "* AN IMAGE\nIMAGE\nLVDC 2\nSTART 000000216\nSIMPLEX 0\n4 01 000 000000007\nEND\n\nUPLINK\nOPEN 1 1\nFRAME 1 1 3 17 376 0 0 40000\nCOMMIT 1 40000\n") []
    ≡ answer_with 0 (codes "ACK OPEN 1\nACK FRAME 1 1\nACK COMMIT 1\nLVDC 2\nSTART 000000216\nSIMPLEX 0\n3 17 376 000000000\n3 17 377 000000000\n4 01 000 000000007\nEND\n") []
unfolding lines_from tokens_from octal_text word_in entry_in words_told banks_named banks_in image_of pair_in place_in image_text from_heading id_in count_in digits
version_2 = refl
