mod UnderWay
