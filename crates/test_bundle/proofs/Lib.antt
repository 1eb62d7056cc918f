mod ContentLaws
