-- Worked loads, and refusals where each is the first.
use Rattle.std.proofs.Common.{◌≡◌, [], refl}
use Rattle.std.specs.Prelude.{codes}
use Rattle.lvdc_uplink.specs.Answers.{uplink_answer}
use Rattle.lvdc_uplink.specs.Input.{from_heading}
use Rattle.lvdc_image.specs.Image.{image_text}
use Rattle.lvdc_image.specs.Reading.{entry_in, words_from as words_told, banks_named, banks_in, image_of}
use Rattle.lvdc_text.specs.Lines.{lines_from, tokens_from}
use Rattle.lvdc_text.specs.Numbers.{octal_text, word_in}
use Rattle.lvdc_uplink.specs.Messages.{id_in, count_in}
use Rattle.std.specs.Fmt.{digits}
use Rattle.lvdc_reply.specs.Answer.{answer_with}

-- each answer that needs no frame
answers : uplink_answer (codes "IMAGE\nLVDC 1\nEND\nUPLINK\nCOMMIT 1 0\nOPEN 1 2\nOPEN 1 2\nOPEN 1 1\nCOMMIT 1 0\nOPEN 2 1\nFLY\nABANDON 2\nABANDON 1\nOPEN 1 1\n") []
    ≡ answer_with 0 (codes "NAK NoLoad\nACK OPEN 1\nACK OPEN 1\nNAK Busy 1\nNAK Missing 1\nNAK Busy 1\nNAK Form\nNAK NoLoad\nACK ABANDON 1\nACK OPEN 1\nLVDC 1\nEND\n") []
unfolding lines_from tokens_from octal_text word_in entry_in words_told banks_named banks_in image_of image_text from_heading id_in count_in digits
answers = refl

-- an image of version 2 stays one
version_2 : uplink_answer (codes "* AN IMAGE\nIMAGE\nLVDC 2\nSTART 000000216\nSIMPLEX 0\n4 01 000 000000007\nEND\n\nUPLINK\nOPEN 1 1\n") []
    ≡ answer_with 0 (codes "ACK OPEN 1\nLVDC 2\nSTART 000000216\nSIMPLEX 0\n4 01 000 000000007\nEND\n") []
unfolding lines_from tokens_from octal_text word_in entry_in words_told banks_named banks_in image_of image_text from_heading id_in count_in digits
version_2 = refl

-- a comment of 121 bytes before UPLINK; after it each line is a message
long_comment : uplink_answer (codes "IMAGE\nLVDC 1\nEND\n* XXXXXXXXXXXXXXXXXXXXXXXXXXXXXXXXXXXXXXXXXXXXXXXXXXXXXXXXXXXXXXXXXXXXXXXXXXXXXXXXXXXXXXXXXXXXXXXXXXXXXXXXXXXXXXXXXXXXXXX\nUPLINK\n") []
    ≡ answer_with 2 (codes "REFUSED BadLine 4\n") []
unfolding lines_from tokens_from octal_text word_in entry_in words_told banks_named banks_in image_of image_text from_heading id_in count_in digits
long_comment = refl

after_uplink : uplink_answer (codes "IMAGE\nLVDC 1\nEND\nUPLINK\n* XXXXXXXXXXXXXXXXXXXXXXXXXXXXXXXXXXXXXXXXXXXXXXXXXXXXXXXXXXXXXXXXXXXXXXXXXXXXXXXXXXXXXXXXXXXXXXXXXXXXXXXXXXXXXXXXXXXXXXX\n") []
    ≡ answer_with 0 (codes "NAK Form\nLVDC 1\nEND\n") []
unfolding lines_from tokens_from octal_text word_in entry_in words_told banks_named banks_in image_of image_text from_heading id_in count_in digits
after_uplink = refl

-- headings that are missing, and the image, which is read last
no_image : uplink_answer (codes "UPLINK\n") []
    ≡ answer_with 2 (codes "REFUSED NoProgram 1\n") []
unfolding lines_from tokens_from octal_text word_in entry_in words_told banks_named banks_in image_of image_text from_heading id_in count_in digits
no_image = refl

no_end : uplink_answer (codes "\nIMAGE\nLVDC 1\nUPLINK\n") []
    ≡ answer_with 2 (codes "REFUSED BadSection 2\n") []
unfolding lines_from tokens_from octal_text word_in entry_in words_told banks_named banks_in image_of image_text from_heading id_in count_in digits
no_end = refl

no_uplink : uplink_answer (codes "IMAGE\nLVDC 1\nEND\nOPEN 1 1\n") []
    ≡ answer_with 2 (codes "REFUSED BadSection 4\n") []
unfolding lines_from tokens_from octal_text word_in entry_in words_told banks_named banks_in image_of image_text from_heading id_in count_in digits
no_uplink = refl

nothing_after_end : uplink_answer (codes "IMAGE\nLVDC 3\nEND\n") []
    ≡ answer_with 2 (codes "REFUSED BadSection 4\n") []
unfolding lines_from tokens_from octal_text word_in entry_in words_told banks_named banks_in image_of image_text from_heading id_in count_in digits
nothing_after_end = refl

bad_image : uplink_answer (codes "IMAGE\nLVDC 3\nEND\nUPLINK\n") []
    ≡ answer_with 4 (codes "REFUSED BadImageLine 2\n") []
unfolding lines_from tokens_from octal_text word_in entry_in words_told banks_named banks_in image_of image_text from_heading id_in count_in digits
bad_image = refl
